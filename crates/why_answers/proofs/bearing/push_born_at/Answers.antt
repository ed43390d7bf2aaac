-- By `Births`.
use Rattle.std.proofs.Common.{◌≡◌, refl, sym, ◌∙◌, ap, ◌∷◌, true, false}
use Rattle.std.proofs.lemmas.Result.{on_ok_weaker}
use Rattle.dllite_axioms.specs.declared.axioms.Axiom.TheVariants.{Sub}
use Rattle.dllite_axioms.specs.declared.axioms.Basic.TheVariants.{Has}
use Rattle.negative_closure.proofs.Places.{In-from_place}
use Rattle.why_answers.proofs.Births.{born_here, born_none, born_one, place_here}
use Rattle.why_answers.proofs.bearing.push_born_at.Goals as goal

clash : false ≡ true → ⊥
clash e = cc

pub returns-then-not-is_place : goal.returns-then-not-is_place
returns-then-not-is_place c =
    born_none c.args.downs.now.axioms c.args.query.now c.args.step.now c.args.from c.args.term.now (λ i e. (i ≡ c.args.at) × (e ≡ c.args.end)) c.args.leads.now
    (λ i e a p place is bears. clash (sym c.if-not-is_place.true ∙ c.is_place.ensures (place_here c.args.downs.now.axioms c.args.query.now c.args.step.now c.args.at c.args.atom.now c.args.end c.requires.atom i e p place)))

pub chain_of-requires-clause-link : goal.chain_of-requires-clause-link
chain_of-requires-clause-link c = (c.requires.within (Sub c.args.step.now.left (Has c.args.step.now.link c.args.step.now.dir)) (In-from_place c.args.downs.now.axioms c.args.by c.requires.by)).1

pub returns-in_default : goal.returns-in_default
returns-in_default c =
    born_none c.args.downs.now.axioms c.args.query.now c.args.step.now c.args.from c.args.term.now (λ i e. (i ≡ c.args.at) × (e ≡ c.args.end)) c.args.leads.now
    (λ i e a p place is bears. (rw c.in_default.is at c.in_ok-chain.ensures) (born_here c.args.downs.now.axioms c.args.query.now c.args.step.now c.args.at c.args.atom.now c.args.end c.requires.atom i e p a is bears))

pub returns : goal.returns
returns c =
    on_ok_weaker c.push.result
    (λ e. born_one c.args.downs.now.axioms c.args.query.now c.args.step.now c.args.from c.args.term.now c.args.by c.args.at c.args.end c.args.atom.now c.in-Some.chain
    (record { step = c.args.from; chain = c.in_ok-numbers.numbers; fact = c.in_ok-fact.fact }) c.args.leads.now c.push.new.self c.requires.by c.requires.atom
    (rw c.in-Some.is at c.in_ok-chain.ensures) refl (c.in_ok-numbers.ensures ∙ ap (λ l. c.args.by ∷ l) c.items.ensures) c.in_ok-fact.ensures e)
    c.push.ensures.ok
