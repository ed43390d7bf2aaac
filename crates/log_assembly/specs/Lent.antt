-- What is lent of a term.
use Rattle.vocabulary.specs.declared.term.Term.{Term, Value}
use Rattle.log_assembly.specs.declared.lent.Held.{Held}
use Rattle.log_assembly.specs.declared.lent.Held.TheVariants.{Whole, Parts}

-- the term that is lent
abbrev pub held_term : Held → Term
held_term (Whole term) = term.now
held_term (Parts kind text) = Value kind text.now
