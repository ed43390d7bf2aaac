-- What the bindings of a search say, and what it answers.
use Rattle.std.specs.Prelude.{◌≡◌, ◌↔◌, Bool, true, false, List, [], ◌∷◌, map, nat_eq, if◌then◌else◌}
use Rattle.vocabulary.specs.Lists.{In}
use Rattle.queries.specs.declared.query.Arg.TheVariants.{Blank}
use Rattle.queries.specs.declared.query.Atom.{Atom}
use Rattle.queries.specs.declared.query.Atom.TheVariants.{InClass, Linked}
use Rattle.queries.specs.declared.query.Query.{Query}
use Rattle.query_subsumption.specs.declared.bindings.Binding.{Binding}
use Rattle.query_subsumption.specs.Numbered.{as_arg}
use Rattle.query_subsumption.specs.Subsumption.{Replacement, arg_image, atom_image}

-- the replacement gives each bound number its image
abbrev pub Agrees : Replacement → List Binding → Type 0
Agrees θ bindings = (b : Binding) → In b bindings → θ (record { 0 = b.number }) ≡ as_arg b.image

-- the replacement that the bindings give: the first image of a number, and Blank where there is none
abbrev pub reading : List Binding → Replacement
reading [] v = Blank
reading (b ∷ bindings) v = if nat_eq b.number v.0 then as_arg b.image else reading bindings v

-- no number is bound to two images
abbrev pub IsSound : List Binding → Type 0
IsSound bindings = Agrees (reading bindings) bindings

-- of the replacements that agree with the old bindings, the new ones tell those of which P holds; or there are none
pub record Solves (P : Replacement → Type 0) (old new : List Binding) (fits : Bool) : Type 0 where
  pub yes : fits ≡ true → (θ : Replacement) → Agrees θ new ↔ (Agrees θ old × P θ)
  pub no : fits ≡ false → (θ : Replacement) → Agrees θ old → P θ → ⊥
  pub sound : fits ≡ true → IsSound old → IsSound new

-- the replacement takes each of the atoms to one of the others
abbrev pub TakesInto : List Atom → List Atom → Replacement → Type 0
TakesInto general special θ = (a : Atom) → In a general → In (atom_image θ a) special

-- no replacement that agrees with the bindings takes the atoms into the others
abbrev pub Fails : List Atom → List Atom → List Binding → Type 0
Fails general special old = (θ : Replacement) → Agrees θ old → TakesInto general special θ → ⊥

-- none does that takes a first atom to this target
abbrev pub FailsAt : Atom → Atom → List Atom → List Atom → List Binding → Type 0
FailsAt first target rest special old = (θ : Replacement) → Agrees θ old → atom_image θ first ≡ target → TakesInto rest special θ → ⊥

-- atoms were chosen to which the general ones go, and the new bindings tell the replacements that take them there
pub record Finds (general special : List Atom) (old new : List Binding) : Type 0 where
  pub chosen : List Atom
  pub each : (a : Atom) → In a chosen → In a special
  pub exact : (θ : Replacement) → Agrees θ new ↔ (Agrees θ old × (map (atom_image θ) general ≡ chosen))
  pub sound : IsSound old → IsSound new

-- the same for whole queries, with no bindings before
pub record Found (general special : Query) (new : List Binding) : Type 0 where
  pub chosen : List Atom
  pub each : (a : Atom) → In a chosen → In a special.atoms
  pub exact : (θ : Replacement) → Agrees θ new ↔ ((map (arg_image θ) general.head ≡ special.head) × (map (atom_image θ) general.atoms ≡ chosen))
  pub sound : IsSound new

-- two atoms of one class or link
abbrev pub SameSymbol : Atom → Atom → Type 0
SameSymbol (InClass a x) (InClass b y) = a ≡ b
SameSymbol (InClass a x) (Linked q y z) = ⊥
SameSymbol (Linked p x w) (InClass b y) = ⊥
SameSymbol (Linked p x w) (Linked q y z) = p ≡ q
