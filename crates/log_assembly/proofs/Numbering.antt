-- Numbered keys, one more at a time.
use Rattle.std.proofs.Common.{◌≡◌, refl, ◌∙◌, sym, ap, ℕ, ◌+◌, ◌<◌, List, [], ◌∷◌, ◌++◌, codes, decimal, length, get_or, take, arith}
use Rattle.std.proofs.lemmas.List.{take_more, length-take-le}
use Rattle.vocabulary.specs.declared.term.Term.{Term}
use Rattle.log_assembly.specs.TheLog.{entry_of, numbered}

numbered_last : (key : List ℕ) (n m : ℕ) (vs : List Term) (v : Term) → m ≡ n + length vs → numbered key n (vs ++ v ∷ []) ≡ numbered key n vs ++ entry_of (key ++ codes "#" ++ decimal m) v ∷ []
numbered_last key n m [] v e = let same : n ≡ m = omega (arith, e) in rw same refl
numbered_last key n m (w ∷ vs) v e = ap (λ xs. entry_of (key ++ codes "#" ++ decimal n) w ∷ xs) (numbered_last key (n + 1) m vs v (omega (arith, e)))

pub numbered_more : (key : List ℕ) (vs : List Term) (i : ℕ) (v : Term) (text : List ℕ) → i < length vs → v ≡ get_or vs i v → text ≡ key ++ codes "#" ++ decimal (i + 1) → numbered key 1 (take i vs) ++ entry_of text v ∷ [] ≡ numbered key 1 (take (i + 1) vs)
numbered_more key vs i v text l is text_is =
    let last : numbered key 1 (take i vs ++ v ∷ []) ≡ numbered key 1 (take i vs) ++ entry_of (key ++ codes "#" ++ decimal (i + 1)) v ∷ [] = numbered_last key 1 (i + 1) (take i vs) v (omega (arith, length-take-le i vs (omega (arith, l)))) in
    ap (λ t. numbered key 1 (take i vs) ++ entry_of t v ∷ []) text_is ∙ sym last ∙ ap (λ w. numbered key 1 (take i vs ++ w ∷ [])) is ∙ ap (numbered key 1) (sym (take_more vs i v l))
