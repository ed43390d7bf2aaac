-- The laws of the log, as the functions of `laws` state them.
use Rattle.std.specs.Prelude.{◌≡◌, ℕ, List}
use Rattle.vocabulary.specs.declared.term.Fact.{Fact}
use Rattle.dllite_axioms.specs.declared.axioms.Axiom.{Axiom}
use Rattle.certain_semantics.specs.Certain.{IsCertain}
use Rattle.xes_writer.specs.declared.log.Log.{Log}
use Rattle.annotation_language.specs.declared.notes.Annotations.{Annotations}
use Rattle.log_assembly.specs.declared.asked.Asked.{Asked}
use Rattle.log_assembly.specs.Answered.{AreAsked, IsInOrder}
use Rattle.log_assembly.specs.TheLog.{IsLog}

-- there is one log of the same annotations over the certain answers of the same axioms and facts
abbrev pub ThereIsOneLog : Type 0
ThereIsOneLog = (axioms : List Axiom) (facts : List Fact) (notes : Annotations) (a b : Log (List ℕ)) →
    IsLog (IsCertain axioms facts) notes a → IsLog (IsCertain axioms facts) notes b → a ≡ b

-- answers that annotations ask for are in order
abbrev pub AskedAreInOrder : Type 0
AskedAreInOrder = (axioms : List Axiom) (facts : List Fact) (notes : Annotations) (asked : Asked) → AreAsked (IsCertain axioms facts) notes asked → IsInOrder asked
