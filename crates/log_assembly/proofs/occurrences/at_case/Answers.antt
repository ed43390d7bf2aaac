-- By the two bounds.
use Rattle.std.proofs.Common.{◌≡◌, ◌∙◌, ap, ◌-◌, ◌≤◌, length, take, drop, true, false, rules, List, ℕ}
use Rattle.std.specs.Ordering.{is_lt, is_le}
use Rattle.std.specs.List.Sorted.{IsPartitionedBy, IsPartitionPoint}
use Rattle.std.proofs.lemmas.List.{take_rest}
use Rattle.std.proofs.lemmas.List.Sorted.{IsPartitionPoint-from_clause}
use Rattle.vocabulary.specs.Texts.{text_cmp}
use Rattle.log_assembly.specs.Gathered.{Occurrence, occurrence_cmp}
use Rattle.log_assembly.proofs.Occurring.{case_rises}
use Rattle.log_assembly.proofs.Runs.{parted_before, parted_upto, run_is}
use Rattle.log_assembly.proofs.occurrences.at_case.Goals as goal

pub returns : goal.returns
returns c =
    let t : List ℕ = c.args.case.now in
    let xs : List Occurrence = c.args.occurrences.now in
    let i = c.partition_point-from.result in
    let j = c.partition_point-len.result in
    let part : List Occurrence = take (length xs - i) (drop i xs) in
    let rest : part ≡ drop i xs = take_rest xs i in
    let first = IsPartitionPoint-from_clause (λ y. is_lt (text_cmp y.case t)) xs i c.partition_point-from.ensures.partitioned (parted_before occurrence_cmp (λ y. text_cmp y.case t) (case_rises t) xs c.requires) (λ a r q k. search rules) in
    let parted : IsPartitionedBy (λ y. is_le (text_cmp y.case t)) part = rw rest (parted_upto occurrence_cmp (λ y. text_cmp y.case t) (case_rises t) xs i c.requires) in
    let second = IsPartitionPoint-from_clause (λ y. is_le (text_cmp y.case t)) part j c.partition_point-len.ensures.partitioned parted (λ a r q k. search rules) in
    let len : j ≤ length (drop i xs) = rw rest at c.partition_point-len.ensures.bound in
    let second' : IsPartitionPoint (λ y. is_le (text_cmp y.case t) ≡ true) (λ y. is_le (text_cmp y.case t) ≡ false) (drop i xs) j = rw rest at second in
    ap (take j) rest ∙ run_is occurrence_cmp (λ y. text_cmp y.case t) (case_rises t) xs i j c.partition_point-from.ensures.bound len first second'
