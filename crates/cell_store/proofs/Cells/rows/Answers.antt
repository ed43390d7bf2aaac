use Rattle.std.proofs.Common.{◌≡◌, ◌∙◌, ap, ◌/◌, length}
use Rattle.cell_store.proofs.Places.{rows_are}
use Rattle.cell_store.proofs.Cells.rows.Goals as goal

pub returns : goal.returns
returns c =
    let all : c.len.result ≡ length c.self.inside.ends.items = c.len.ensures ∙ c.self.inside.ends.ok.0 in
    ap (λ n. n / c.self.inside.cols) all ∙ rows_are _ _ _ _ c.self.view_is
