-- What a model line leaves.
use Rattle.std.proofs.Common.{◌≡◌, refl, subst, ℕ, List, [], ◌∷◌, inl, inr, ◌⊎◌, Option, Some, None, Ok}
use Rattle.line_lexer.specs.Tokens.{Seen, tokens_of}
use Rattle.line_lexer.specs.declared.fault.LineFault.{LineFault}
use Rattle.uml_model.specs.Lines.{Line, model_line}
use Rattle.uml_model.specs.Rules.{Known, broken, grown, judged, read_line, read_parsed, read_tokens}

-- the model as it was, or with a line of the grammar
abbrev pub Leaves : Known → Known → List Seen → Type 0
Leaves s new tokens = (s ≡ new) ⊎ ((line : Line) × (model_line tokens ≡ Some line) × (grown s line ≡ new))

module _ (s new : Known) where
  by_rule : (line : Line) (o : Option LineFault) → judged s line o ≡ Ok new → grown s line ≡ new
  by_rule line None e = cc
  by_rule line (Some fault) e = cc

  by_line : (t : Seen) (ts : List Seen) (o : Option Line) → model_line (t ∷ ts) ≡ o → read_parsed s o ≡ Ok new → Leaves s new (t ∷ ts)
  by_line t ts None f e = cc
  by_line t ts (Some line) f e = inr (line, f, by_rule line (broken s line) e)

  by_tokens : (tokens : List Seen) → read_tokens s (Some tokens) ≡ Ok new → Leaves s new tokens
  by_tokens [] e = inl (is e)
    where
      is : read_tokens s (Some []) ≡ Ok new → s ≡ new
      is e = cc
  by_tokens (t ∷ ts) e = by_line t ts (model_line (t ∷ ts)) refl e

  pub leaves : (text : List ℕ) (tokens : List Seen) → tokens_of text ≡ Some tokens → read_line s text ≡ Ok new → Leaves s new tokens
  leaves text tokens told read = by_tokens tokens (subst (λ o. read_tokens s o ≡ Ok new) told read)
