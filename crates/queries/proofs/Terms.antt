-- What the order takes from a fresh term.
use Rattle.std.proofs.Common.{◌≡◌, refl, sym, ◌∙◌, ap, [], ◌∷◌}
use Rattle.std.specs.declared.cmp.Ordering.TheVariants.{Less, Equal, Greater}
use Rattle.std.specs.Ordering.{nat_cmp, ordering_then}
use Rattle.vocabulary.specs.declared.ids.LinkId.{LinkId}
use Rattle.vocabulary.specs.declared.ids.Dir.{Dir}
use Rattle.vocabulary.specs.declared.term.Term.{Term, New, New', Named, Value, end_of-Term, more_of-Term}
use Rattle.vocabulary.specs.Texts.{text_cmp}
use Rattle.vocabulary.proofs.Fresh.{open_new}
use Rattle.queries.specs.Order.{births, dir_rank, term_rank}

pub rank_new : (p : LinkId) (d : Dir) (t : Term) → term_rank (New p d t) ≡ term_rank t
unfolding open_new
rank_new p d t = refl

pub births_new : (p : LinkId) (d : Dir) (t : Term) → births (New p d t) ≡ p.0 ∷ dir_rank d ∷ births t
unfolding open_new
births_new p d t = refl

-- a term that is not fresh has none
abbrev NotFresh : Term → Type 0
NotFresh t = (p : LinkId) (d : Dir) (s : Term) → t ≡ New p d s → ⊥

births_none : (t : Term) → NotFresh t → births t ≡ []
unfolding open_new
births_none (Named a) n = refl
births_none (Value k a) n = refl
births_none (New' p d s (more_of-Term t end_of-Term)) n = absurd (n p d t refl)

pub both_fresh : (t u : Term) (p q : LinkId) (d e : Dir) (s r : Term) → t ≡ New p d s → u ≡ New q e r →
    ordering_then (nat_cmp p.0 q.0) (ordering_then (nat_cmp (dir_rank d) (dir_rank e)) (text_cmp (births s) (births r))) ≡ text_cmp (births t) (births u)
both_fresh t u p q d e s r h k =
    let a = ap births h ∙ births_new p d s in
    let b = ap births k ∙ births_new q e r in
    λ i. text_cmp (sym a i) (sym b i)

pub first_fresh : (t u : Term) (p : LinkId) (d : Dir) (s : Term) → t ≡ New p d s → NotFresh u → Greater ≡ text_cmp (births t) (births u)
first_fresh t u p d s h n =
    let a = ap births h ∙ births_new p d s in
    let b = births_none u n in
    λ i. text_cmp (sym a i) (sym b i)

pub second_fresh : (t u : Term) (p : LinkId) (d : Dir) (s : Term) → NotFresh t → u ≡ New p d s → Less ≡ text_cmp (births t) (births u)
second_fresh t u p d s n h =
    let a = births_none t n in
    let b = ap births h ∙ births_new p d s in
    λ i. text_cmp (sym a i) (sym b i)

pub none_fresh : (t u : Term) → NotFresh t → NotFresh u → Equal ≡ text_cmp (births t) (births u)
none_fresh t u n m =
    let a = births_none t n in
    let b = births_none u m in
    λ i. text_cmp (sym a i) (sym b i)
