use Rattle.std.proofs.Common.{length, drop, arith}
use Rattle.std.proofs.lemmas.Option.{slice_get_read}
use Rattle.mapping_unfolding.specs.Drafts.{HasTarget}
use Rattle.mapping_unfolding.proofs.Extending.{all_at, all_at_place, at_last, count_at, end_all, end_kept, end_only, kept_on, mappings_more, next, none_at, on_ok, only_at, only_on, ready_at, rest, targets_more}
use Rattle.mapping_unfolding.proofs.extend.+extend.Goals as goal

pub extend-returns-then-len-atoms-clause-kept : goal.extend-returns-then-len-atoms-clause-kept
extend-returns-then-len-atoms-clause-kept t c = end_kept c.args.mappings.now c.args.atoms.now c.args.draft.now c.in_ok-copy.field-0 c.args.out.now.items c.push.new.self.items (grind arith)

pub extend-returns-then-len-atoms-clause-only : goal.extend-returns-then-len-atoms-clause-only
extend-returns-then-len-atoms-clause-only t c =
    end_only c.args.mappings.now c.args.atoms.now c.args.draft.now (length c.args.draft.now.origins) (grind arith) c.in_ok-copy.field-0 c.in_ok-copy.ensures c.args.out.now.items c.push.new.self.items (grind arith)

pub extend-returns-then-len-atoms-clause-all : goal.extend-returns-then-len-atoms-clause-all
extend-returns-then-len-atoms-clause-all t c =
    end_all c.args.mappings.now c.args.atoms.now c.args.draft.now (length c.args.draft.now.origins) (grind arith) c.in_ok-copy.field-0 c.in_ok-copy.ensures c.args.out.now.items c.push.new.self.items (grind arith)

pub extend-extend_by_mapping-requires : goal.extend-extend_by_mapping-requires
extend-extend_by_mapping-requires t c =
    let w = c.requires.ready.within in
    let n = c.len.ensures in
    let f = c.if-len-atoms.false in
    (omega arith, (c.requires.ready, (grind arith, slice_get_read c.args.mappings.now (length c.args.mappings.now) c.loop-i.i c.index-mappings-i.result (grind arith) c.loop-i-test.true c.index-mappings-i.is)))

pub extend-loop-i-preserved : goal.extend-loop-i-preserved
extend-loop-i-preserved t c =
    let inv = c.loop-i.invariant in
    let e = c.in_ok-extend_by_mapping.ensures in
    let ms = c.args.mappings.now in
    let atoms = c.args.atoms.now in
    let d = c.args.draft.now in (
      kept_on c.args.out.now.items c.loop-i.out.items c.extend_by_mapping.new.out.items inv.0 e.kept,
      only_on ms (drop (length d.origins) atoms) d c.args.out.now.items c.loop-i.out.items c.extend_by_mapping.new.out.items inv.1 e.only,
      mappings_more ms (next ms atoms d) (rest ms atoms d) d c.loop-i.i c.index-mappings-i.result c.loop-i.out.items c.extend_by_mapping.new.out.items c.loop-i-test.true c.index-mappings-i.is e.kept inv.2 e.all,
    )

pub extend-returns-clause-all : goal.extend-returns-clause-all
extend-returns-clause-all t c =
    let w = c.requires.ready.within in
    let n = c.len.ensures in
    let f = c.if-len-atoms.false in
    all_at_place c.args.mappings.now c.args.atoms.now c.args.draft.now (grind arith) c.loop-i.out.items c.loop-i.i c.loop-i-test.false c.loop-i.invariant.2

pub extend_by_mapping-loop-i-preserved : goal.extend_by_mapping-loop-i-preserved
extend_by_mapping-loop-i-preserved t c =
    let inv = c.loop-i.invariant in
    let e = c.in_ok-extend_by_target.ensures in
    let ms = c.args.mappings.now in
    let atoms = c.args.atoms.now in
    let d = c.args.draft.now in
    let l = c.loop-i-test.true in
    let is = c.index-targets-i.is in (
      kept_on c.args.out.now.items c.loop-i.out.items c.extend_by_target.new.out.items inv.0 e.kept,
      only_on ms (drop (length d.origins) atoms) d c.args.out.now.items c.loop-i.out.items c.extend_by_target.new.out.items inv.1 e.only,
      targets_more ms (next ms atoms d) (rest ms atoms d) d c.args.mapping.now c.loop-i.i c.index-targets-i.result c.loop-i.out.items c.extend_by_target.new.out.items (rw (c.items-targets.ensures) at l) (rw (c.items-targets.ensures) at is) e.kept inv.2 e.all,
    )

pub extend_by_mapping-returns-clause-all : goal.extend_by_mapping-returns-clause-all
extend_by_mapping-returns-clause-all t c =
    let l = c.loop-i-test.false in
    at_last (HasTarget c.args.mappings.now (next c.args.mappings.now c.args.atoms.now c.args.draft.now) (rest c.args.mappings.now c.args.atoms.now c.args.draft.now) c.args.draft.now c.args.mapping.now.query c.loop-i.out.items)
    c.loop-i.i c.args.mapping.now.targets (rw (c.items-targets.ensures) at l) c.loop-i.invariant.2

pub extend_by_target-extend-requires : goal.extend_by_target-extend-requires
extend_by_target-extend-requires t c =
    let is = c.index-atoms-len.is in
    let place = c.requires.place in
    let n = count_at c.args.mappings.now c.args.atoms.now c.args.draft.now c.requires.ready place c.args.origin c.args.mapping.now c.args.target.now c.requires.names c.requires.first
    c.index-atoms-len.result (rw (c.len.ensures) at is) c.in_ok-next.field-0 c.in_ok-next.ensures.adds c.in-Some.next c.in-Some.is in (
      omega (arith, n, place),
      ready_at c.args.mappings.now c.args.atoms.now c.args.draft.now c.requires.ready place c.args.origin c.args.mapping.now c.args.target.now c.requires.names c.requires.first
          c.index-atoms-len.result (rw (c.len.ensures) at is) c.in_ok-next.field-0 c.in_ok-next.ensures.adds c.in-Some.next c.in-Some.is c.in_ok-next.ensures.whole,
    )

pub extend_by_target-returns-in-Some-clause-only : goal.extend_by_target-returns-in-Some-clause-only
extend_by_target-returns-in-Some-clause-only t c =
    let is = c.index-atoms-len.is in
    on_ok c.extend.result _ _ (only_at c.args.mappings.now c.args.atoms.now c.args.draft.now c.requires.ready c.requires.place c.args.origin c.args.mapping.now c.args.target.now c.requires.names c.requires.first
    c.index-atoms-len.result (rw (c.len.ensures) at is) c.in_ok-next.field-0 c.in_ok-next.ensures.adds c.in-Some.next c.in-Some.is c.args.out.now.items c.extend.new.out.items) c.extend.ensures.only

pub extend_by_target-returns-in-Some-clause-all : goal.extend_by_target-returns-in-Some-clause-all
extend_by_target-returns-in-Some-clause-all t c =
    let is = c.index-atoms-len.is in
    on_ok c.extend.result _ _ (all_at c.args.mappings.now c.args.atoms.now c.args.draft.now c.requires.ready c.requires.place c.args.origin c.args.mapping.now c.args.target.now c.requires.names c.requires.first
    c.index-atoms-len.result (rw (c.len.ensures) at is) c.in_ok-next.field-0 c.in_ok-next.ensures.adds c.in-Some.next c.in-Some.is c.extend.new.out.items) c.extend.ensures.all

pub extend_by_target-returns-in-None-clause-all : goal.extend_by_target-returns-in-None-clause-all
extend_by_target-returns-in-None-clause-all t c =
    let is = c.index-atoms-len.is in
    none_at c.args.mappings.now c.args.atoms.now c.args.draft.now c.requires.ready c.requires.place c.args.origin c.args.mapping.now c.args.target.now c.requires.names c.requires.first
    c.index-atoms-len.result (rw (c.len.ensures) at is) c.in_ok-next.field-0 c.in_ok-next.ensures.adds c.in-None.is c.args.out.now.items
