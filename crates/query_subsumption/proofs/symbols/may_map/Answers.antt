-- By `SameSymbols`.
use Rattle.std.proofs.Common.{◌∙◌, sym, subst, List}
use Rattle.std.proofs.lemmas.Bool.{eq-eqb}
use Rattle.vocabulary.specs.Lists.{In}
use Rattle.queries.specs.declared.query.Atom.{Atom}
use Rattle.query_subsumption.specs.Search.{SameSymbol}
use Rattle.query_subsumption.proofs.SameSymbols.{each_symbol, one_length}
use Rattle.query_subsumption.proofs.symbols.may_map.Goals as goal

abbrev Have : List Atom → List Atom → Type 0
Have wanted atoms = (a : Atom) → In a wanted → (b : Atom) × In b atoms × SameSymbol b a

pub returns-then-len : goal.returns-then-len
returns-then-len c m =
    c.have_symbols.ensures.1 (subst (λ w. Have w c.items-then-len.result.now) (sym c.items.ensures)
    (subst (λ s. Have c.args.general.now.atoms s) (sym c.items-then-len.ensures) (each_symbol c.args.general.now c.args.special.now m)))

pub returns-else-len : goal.returns-else-len
returns-else-len c m =
    eq-eqb c.len.result c.len-2.result (c.len.ensures ∙ one_length c.args.general.now c.args.special.now m ∙ sym c.len-2.ensures)
