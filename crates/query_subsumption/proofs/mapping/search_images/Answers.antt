-- By `Telling`.
use Rattle.std.proofs.Common.{sym, subst}
use Rattle.query_subsumption.specs.Images.{AreImages}
use Rattle.query_subsumption.specs.Numbered.{as_query}
use Rattle.query_subsumption.specs.Search.{Found}
use Rattle.query_subsumption.specs.Subsumption.{IsMapping, apart}
use Rattle.query_subsumption.proofs.Telling.{are_images}
use Rattle.query_subsumption.proofs.mapping.search_images.Goals as goal

pub returns-in_default-clause-none : goal.returns-in_default-clause-none
returns-in_default-clause-none c m =
    let f = rw c.in_default.is at c.in_ok-found.ensures.none in
    f m.0 (subst (λ q. IsMapping m.0 (as_query c.in_ok-from.from) q) (sym c.in_ok-to.ensures.same)
    (subst (λ q. IsMapping m.0 q (apart c.args.special.now)) (sym c.in_ok-from.ensures.same) m.1))

pub returns-clause-some : goal.returns-clause-some
returns-clause-some c =
    let found = rw c.in-Some.is at c.in_ok-found.ensures.some in
    let f = subst (λ bs. Found (as_query c.in_ok-from.from) (as_query c.in_ok-to.to) bs) (sym c.as_slice.ensures.value) found in
    subst (λ out. AreImages c.args.general.now c.args.special.now out) (sym c.from_vec.ensures)
    (are_images c.args.general.now c.args.special.now c.in_ok-from.from c.in_ok-to.to c.as_slice.result.now c.in_ok-told.told.items
    c.in_ok-from.ensures c.in_ok-to.ensures f c.in_ok-told.ensures.count c.in_ok-told.ensures.each)
