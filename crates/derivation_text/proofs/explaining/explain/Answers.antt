use Rattle.std.proofs.Common.{◌∙◌, map, string_bytes}
use Rattle.derivation_text.proofs.Lining.{explanation_written}
use Rattle.derivation_text.proofs.explaining.explain.Goals as goal

pub returns : goal.returns
returns c =
    c.from_string.ensures
    ∙ explanation_written (map (λ m. m.name) c.args.mappings.now) c.args.steps.now c.args.atoms.now (string_bytes c.push_steps.new.text) (string_bytes c.push_atoms.new.text) (string_bytes c.push_str.new.self)
    (rw c.new-text.ensures.bytes at c.in_ok-push_steps.ensures) c.in_ok-push_atoms.ensures c.in_ok-push_str.ensures.bytes
