use Rattle.std.proofs.Common.{◌≡◌, ◌∙◌, [], ◌∷◌, length, string_bytes, arith, length-append}
use Rattle.cell_store.proofs.Places.{room, null_stretches, null_grid}
use Rattle.cell_store.proofs.Cells.push_null.Goals as goal

pub invariant_of-self-2 : goal.invariant_of-self-2
invariant_of-self-2 c =
    let end : c.len.result ≡ length (string_bytes c.self.inside.text) = c.len.ensures ∙ c.self.inside.text.bytes.ok.0 in
    let inv = c.self.invariant in
    let most = room _ _ _ _ c.self.view_is c.requires inv.0 in
    rw (c.in_ok-push.ensures.items, end)
    (inv.0, omega (arith, most, length-append c.self.inside.ends.items (length (string_bytes c.self.inside.text) ∷ [])), inv.2, null_stretches _ _ inv.3)

pub returns : goal.returns
returns c =
    let end : c.len.result ≡ length (string_bytes c.self.inside.text) = c.len.ensures ∙ c.self.inside.text.bytes.ok.0 in
    rw (c.in_ok-push.ensures.items, end) (null_grid _ _ _ _ c.self.view_is c.self.invariant.3)
