-- What axioms come to, by their first fault.
use Rattle.std.proofs.Common.{◌≡◌, ap, ◌∙◌, List, [], Some, None, Result, Err}
use Rattle.owl_functional.specs.declared.fault.OwlFault.{OwlFault}
use Rattle.owl_functional.specs.declared.tree.Axiom.{Axiom}
use Rattle.owl_functional.specs.Rules.{first_fault, first_specialised, or_else}
use Rattle.owl_functional.specs.Ontology.{given, judged, numbered, within_limits}

pub judged_fault : (axioms : List Axiom) (e : OwlFault) → first_fault axioms [] axioms ≡ Some e → judged axioms ≡ Err e
unfolding judged
judged_fault axioms e is = ap (λ o. elim (or_else o (first_specialised axioms axioms)) [ None ↦ within_limits (given (numbered axioms) axioms) | Some f ↦ Err f ]) is

pub judged_specialised : (axioms : List Axiom) (e : OwlFault) → first_fault axioms [] axioms ≡ None → first_specialised axioms axioms ≡ Some e → judged axioms ≡ Err e
unfolding judged
judged_specialised axioms e none is = ap (λ o. elim (or_else o (first_specialised axioms axioms)) [ None ↦ within_limits (given (numbered axioms) axioms) | Some f ↦ Err f ]) none ∙ ap (λ o. elim o [ None ↦ within_limits (given (numbered axioms) axioms) | Some f ↦ Err f ]) is

pub judged_given : (axioms : List Axiom) → first_fault axioms [] axioms ≡ None → first_specialised axioms axioms ≡ None → judged axioms ≡ within_limits (given (numbered axioms) axioms)
unfolding judged
judged_given axioms none alone = ap (λ o. elim (or_else o (first_specialised axioms axioms)) [ None ↦ within_limits (given (numbered axioms) axioms) | Some f ↦ Err f ]) none ∙ ap (λ o. elim o [ None ↦ within_limits (given (numbered axioms) axioms) | Some f ↦ Err f ]) alone
