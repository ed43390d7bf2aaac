-- What a line that is read leaves.
use Rattle.std.proofs.Common.{◌≡◌, refl, List, [], ◌∷◌, Option, Some, None, Ok, ◌⊎◌, inl, inr}
use Rattle.line_lexer.specs.Judging.{read_by, unless}
use Rattle.line_lexer.specs.Tokens.{Seen}
use Rattle.line_lexer.specs.declared.fault.LineFault.{LineFault}

module _ {S L : Type 0} (form : List Seen → Option L) (broken : L → Option LineFault) (grown : L → S) (s after : S) where
  -- what there was, or that and a line of the grammar that breaks no rule
  abbrev pub Leaves : Type 0
  Leaves = (s ≡ after) ⊎ ((line : L) × (broken line ≡ None) × (grown line ≡ after))

  by_rule : (line : L) (o : Option LineFault) → broken line ≡ o → unless o (grown line) ≡ Ok after → Leaves
  by_rule line None b e = inr (line, b, is e)
    where
      is : unless None (grown line) ≡ Ok after → grown line ≡ after
      is e = cc
  by_rule line (Some fault) b e = cc

  by_form : (t : Seen) (ts : List Seen) (o : Option L) → form (t ∷ ts) ≡ o → read_by form broken grown s (Some (t ∷ ts)) ≡ Ok after → Leaves
  by_form t ts None f e = (let wrong = rw f at e in cc)
  by_form t ts (Some line) f e = by_rule line (broken line) refl (rw f at e)

  pub leaves : (o : Option (List Seen)) → read_by form broken grown s o ≡ Ok after → Leaves
  leaves None e = cc
  leaves (Some []) e = inl (is e)
    where
      is : read_by form broken grown s (Some []) ≡ Ok after → s ≡ after
      is e = cc
  leaves (Some (t ∷ ts)) e = by_form t ts (form (t ∷ ts)) refl e
