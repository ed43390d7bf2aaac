-- Which classes and links the mappings give facts of.
use Rattle.std.specs.Prelude.{◌≡◌, ℕ, Bool, true, ◌&&◌, List, get_or}
use Rattle.vocabulary.specs.declared.ids.Dir.TheVariants.{Fwd}
use Rattle.vocabulary.specs.Lists.{In}
use Rattle.dllite_axioms.specs.declared.axioms.Basic.{Basic}
use Rattle.dllite_axioms.specs.declared.axioms.Basic.TheVariants.{Class, Has}
use Rattle.mapping_facts.specs.declared.mapping.Target.{Target}
use Rattle.mapping_facts.specs.declared.mapping.Target.TheVariants.{InClass as ClassTarget, Linked as LinkTarget}
use Rattle.mapping_facts.specs.declared.mapping.Mapping.{Mapping}
use Rattle.negative_closure.specs.declared.source.Source.{Source}
use Rattle.negative_closure.specs.declared.source.Source.TheVariants.{One, Two, TwoFillers, TwoLinks}
use Rattle.consistency_check.specs.declared.given.Given.{Given}

-- what has no place counts as marked
abbrev pub is_marked : List Bool → ℕ → Bool
is_marked marks n = get_or marks n true

abbrev pub may_match : Given → Basic → Bool
may_match given (Class a) = is_marked given.classes.items a.0
may_match given (Has p d) = is_marked given.links.items p.0

abbrev pub may_meet : Given → Source → Bool
may_meet given (One x) = may_match given x
may_meet given (Two x y) = may_match given x && may_match given y
may_meet given (TwoFillers p d) = may_match given (Has p d)
may_meet given (TwoLinks q d p) = may_match given (Has q Fwd) && may_match given (Has p d)

-- what the target gives is marked
abbrev pub IsMarked : Given → Target → Type 0
IsMarked given (ClassTarget a r) = is_marked given.classes.items a.0 ≡ true
IsMarked given (LinkTarget p r s) = is_marked given.links.items p.0 ≡ true

-- and so for each target of each mapping
abbrev pub AreMarked : List Mapping → Given → Type 0
AreMarked mappings given = (m : Mapping) → In m mappings → (g : Target) → In g m.targets → IsMarked given g
