-- Sorts that differ.
use Rattle.std.proofs.Common.{◌≡◌, refl, sym, ap, ◌∙◌, ℕ, ◌+◌, ◌<◌, ◌≤◌, true, not, List, [], ◌∷◌, Some, length, map, drop, get_or, arith}
use Rattle.std.proofs.lemmas.List.{drop_more}
use Rattle.std.specs.List.{list_any}
use Rattle.vocabulary.specs.declared.ids.Side.{Side}
use Rattle.vocabulary.specs.declared.ids.Side.TheVariants.{Object, Value}
use Rattle.vocabulary.specs.declared.ids.ValueKind.{ValueKind}
use Rattle.vocabulary.specs.declared.ids.ValueKind.TheVariants.{Text, Int, Bool as Boolean, Time}
use Rattle.annotation_language.specs.declared.places.Placed.{Placed}
use Rattle.annotation_language.specs.Written as written
use Rattle.annotation_language.specs.Lines as lines
use Rattle.uml_model.specs.Rules.{same_kind}
use Rattle.annotation_language.specs.Lines.{same_side, differ}
use Rattle.annotation_language.specs.Shown.{shown_argument}
use Rattle.annotation_language.specs.Resolved.{shown_placed, is_of, sides_at, first_of}

same_kind-refl : (k : ValueKind) → same_kind k k ≡ true
same_kind-refl Text = refl
same_kind-refl Int = refl
same_kind-refl Boolean = refl
same_kind-refl Time = refl

same_side-refl : (side : Side) → same_side side side ≡ true
same_side-refl Object = refl
same_side-refl (Value k) = same_kind-refl k

-- the first sort is no other
pub differs_from_first : (sides : List Side) (d : Side) → 1 ≤ length sides → list_any (λ other. not (same_side (get_or sides 0 d) other)) sides ≡ differ sides
differs_from_first [] d some = absurd (omega arith)
differs_from_first (side ∷ sides) d some = rw (same_side-refl side) refl

-- the first place of a variable gives the first sort
first_here : (v : List ℕ) (a : written.Argument) (side : Side) (rest : List lines.Placed) → is_of v (record { argument = a; side = side }) ≡ true → Some side ≡ first_of (sides_at v (record { argument = a; side = side } ∷ rest))
first_here v written.Blank side rest e = grind arith
first_here v (written.Variable w) side rest e = rw e refl
first_here v (written.Constant text) side rest e = grind arith
first_here v (written.Iri text) side rest e = grind arith

pub first_is : (v : List ℕ) (places : List Placed) (i : ℕ) (d : Placed) → i < length places → is_of v (shown_placed (get_or places i d)) ≡ true → first_of (sides_at v (map shown_placed (drop i places))) ≡ first_of (sides_at v (map shown_placed places)) → Some (get_or places i d).side ≡ first_of (sides_at v (map shown_placed places))
first_is v places i d lt e same =
    first_here v (shown_argument (get_or places i d).argument) (get_or places i d).side (map shown_placed (drop (i + 1) places)) e
    ∙ ap (λ rest. first_of (sides_at v (map shown_placed rest))) (sym (drop_more places i d lt)) ∙ same

pub first_side_is : (side : Side) (sides : List Side) → Some side ≡ first_of sides → side ≡ lines.first_side sides
first_side_is side [] e = grind arith
first_side_is side (other ∷ sides) e = grind (arith, e)
