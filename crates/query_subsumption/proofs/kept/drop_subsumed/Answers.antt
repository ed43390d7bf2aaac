-- By `Dropping`.
use Rattle.std.proofs.Common.{sym, subst}
use Rattle.query_subsumption.specs.Subsumption.{AreKept}
use Rattle.query_subsumption.proofs.Dropping.{kept_among, kept_images, kept_none_maps, kept_ordered}
use Rattle.query_subsumption.proofs.kept.drop_subsumed.Goals as goal

pub returns : goal.returns
returns c =
    let h : AreKept c.args.queries c.from_vec.result =
    subst (λ out. AreKept c.args.queries out) (sym c.from_vec.ensures) (subst (λ qs. AreKept qs c.in_ok-kept.kept.items) c.items.ensures c.in_ok-kept.ensures) in
    record {
      kept = h;
      among = kept_among c.args.queries c.from_vec.result h;
      ordered = kept_ordered c.args.queries 0 c.args.queries c.from_vec.result h;
      none_maps = kept_none_maps c.args.queries c.from_vec.result h;
      images = kept_images c.args.queries c.from_vec.result h;
    }
