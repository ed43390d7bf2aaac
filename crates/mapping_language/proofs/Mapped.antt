-- The mapping of a line from what was made of its parts.
use Rattle.std.proofs.Common.{◌≡◌, refl, List, ℕ, Option, map}
use Rattle.std.specs.List.{flat_map}
use Rattle.vocabulary.specs.declared.ids.ClassId.{ClassId}
use Rattle.vocabulary.specs.declared.ids.LinkId.{LinkId}
use Rattle.vocabulary.specs.declared.ids.TableId.{TableId}
use Rattle.vocabulary.specs.declared.ids.Side.{Side}
use Rattle.mapping_facts.specs.declared.query.Condition.{Condition as RowCondition}
use Rattle.mapping_facts.specs.declared.mapping.Target.{Target as RowTarget}
use Rattle.mapping_language.specs.declared.sources.Sources.{Sources}
use Rattle.mapping_language.specs.declared.written.Condition.{Condition}
use Rattle.mapping_language.specs.declared.written.Source.{Source}
use Rattle.mapping_language.specs.declared.written.Target.{Target}
use Rattle.mapping_language.specs.declared.written.MapLine.{MapLine}
use Rattle.mapping_language.specs.Tables.{table_number}
use Rattle.line_lexer.specs.Judging.{or_zero}
use Rattle.mapping_language.specs.Mappings.{condition_of, targets_of, mapping_of}
use Rattle.mapping_language.specs.Shown.{source_shown, condition_shown, target_shown, map_shown}
use Rattle.mapping_language.proofs.Lists.{map_of_map, gathered_of_map}

abbrev the_table : Sources → List ℕ → TableId
the_table s name = record { 0 = or_zero (table_number s name) }

pub mapped_line : (class_of : List ℕ → Option ClassId) (link_of : List ℕ → Option (LinkId × Side)) (s : Sources) (m : MapLine) (name : List ℕ) (tables : List TableId) (conditions : List RowCondition) (targets : List RowTarget)
    (froms : List Source) (conds : List Condition) (goals : List Target) → froms ≡ m.sources.items → conds ≡ m.conditions.items → goals ≡ m.targets.items
    → name ≡ m.name.now
    → tables ≡ map (λ from. record { 0 = or_zero (table_number s from.table.now) }) froms
    → conditions ≡ map (λ c. condition_of s (map_shown m) (condition_shown c)) conds
    → targets ≡ flat_map (λ t. targets_of class_of link_of s (map_shown m) (target_shown t)) goals
    → record { name = name; query = record { tables = tables; conditions = conditions }; targets = targets } ≡ mapping_of class_of link_of s (map_shown m)
mapped_line class_of link_of s m name tables conditions targets froms conds goals f c g is_name is_tables is_conditions is_targets =
    let ts : map (λ from. the_table s from.table) (map source_shown m.sources.items) ≡ map (λ from. the_table s from.table.now) m.sources.items = map_of_map (λ from. the_table s from.table) source_shown m.sources.items in
    let cs : map (condition_of s (map_shown m)) (map condition_shown m.conditions.items) ≡ map (λ c. condition_of s (map_shown m) (condition_shown c)) m.conditions.items = map_of_map (condition_of s (map_shown m)) condition_shown m.conditions.items in
    let gs : flat_map (targets_of class_of link_of s (map_shown m)) (map target_shown m.targets.items) ≡ flat_map (λ t. targets_of class_of link_of s (map_shown m) (target_shown t)) m.targets.items = gathered_of_map (targets_of class_of link_of s (map_shown m)) target_shown m.targets.items in
    rw (is_name, is_tables, is_conditions, is_targets, f, c, g, ts, cs, gs) refl
