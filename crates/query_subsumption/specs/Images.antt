-- The list of images that tells how one query maps into another.
use Rattle.std.specs.Prelude.{◌≡◌, ℕ, ◌+◌, ◌<◌, List, [], ◌∷◌, length, Some, slice_get, ltb, if◌then◌else◌}
use Rattle.vocabulary.specs.declared.ids.VarId.{VarId}
use Rattle.queries.specs.declared.query.Arg.{Arg}
use Rattle.queries.specs.declared.query.Arg.TheVariants.{Blank, Var, Fixed}
use Rattle.queries.specs.declared.query.Atom.{Atom}
use Rattle.queries.specs.declared.query.Query.{Query}
use Rattle.queries.specs.Occurrences.{count, head_count}
use Rattle.query_subsumption.specs.Subsumption.{IsMapping, Replacement, apart, blanks_in_args, blanks_in_atom, first_free}

abbrev pub blanks_in_atoms : List Atom → ℕ
blanks_in_atoms [] = 0
blanks_in_atoms (a ∷ atoms) = blanks_in_atom a + blanks_in_atoms atoms

-- how many numbers a query takes when it is read apart: those up to its greatest variable, then one for each Blank
abbrev pub numbers : Query → ℕ
numbers q = first_free q + blanks_in_args q.head + blanks_in_atoms q.atoms

-- an image as it is told: a variable that stands for a Blank, from this number on, is Blank
abbrev pub told : ℕ → Arg → Arg
told blanks_from Blank = Blank
told blanks_from (Var v) = if ltb v.0 blanks_from then Var v else Blank
told blanks_from (Fixed t) = Fixed t

-- the images of the numbers of the first query under a replacement that maps it into the second: variables by number, then Blanks as they stand, the head before the atoms; Blank for a number that no variable has
pub record AreImages (general special : Query) (images : List Arg) : Type 0 where
  pub θ : Replacement
  pub maps : IsMapping θ (apart general) (apart special)
  pub size : length images ≡ numbers general
  pub each : (n : ℕ) → n < numbers general → slice_get images n ≡ Some (told (first_free special) (θ (record { 0 = n })))
  pub unused : (v : VarId) → v.0 < first_free general → head_count v general.head ≡ 0 → count v general.atoms ≡ 0 → θ v ≡ Blank
