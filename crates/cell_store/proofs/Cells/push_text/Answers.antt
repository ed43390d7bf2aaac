use Rattle.std.proofs.Common.{◌≡◌, ◌∙◌, ap, [], ◌∷◌, length, ◌+◌, ◌++◌, string_bytes, arith, lit<, length-append}
use Rattle.std.proofs.lemmas.Str.{encode_ascii}
use Rattle.cell_store.proofs.Places.{room, length-closed, text_stretches, text_grid}
use Rattle.cell_store.proofs.Cells.push_text.Goals as goal

pub invariant_of-self-2 : goal.invariant_of-self-2
invariant_of-self-2 c =
    let end : c.len.result ≡ length (string_bytes c.self.inside.text) = c.len.ensures ∙ c.self.inside.text.bytes.ok.0 in
    let inv = c.self.invariant in
    let most = room _ _ _ _ c.self.view_is c.requires inv.0 in
    let text : string_bytes c.push-2.new.self ≡ (string_bytes c.self.inside.text ++ c.args.text.now) ++ (10 ∷ []) =
    c.in_ok-push-2.ensures.bytes ∙ ap (λ e. string_bytes c.push_str.new.self ++ e) (encode_ascii 10 (lit< tt)) ∙ ap (λ t. t ++ (10 ∷ [])) (c.in_ok-push_str.ensures.bytes ∙ ap (λ t. t ++ c.args.text.now) c.in_ok-reserve.ensures.bytes) in
    rw (text, c.in_ok-push.ensures.items, end)
    (inv.0, omega (arith, most, length-append c.self.inside.ends.items ((length (string_bytes c.self.inside.text) + length c.args.text.now + 1) ∷ [])), omega (arith, length-closed (string_bytes c.self.inside.text) c.args.text.now, c.if-end.false), text_stretches _ _ _ c.utf8.text inv.3)

pub returns : goal.returns
returns c =
    let end : c.len.result ≡ length (string_bytes c.self.inside.text) = c.len.ensures ∙ c.self.inside.text.bytes.ok.0 in
    let text : string_bytes c.push-2.new.self ≡ (string_bytes c.self.inside.text ++ c.args.text.now) ++ (10 ∷ []) =
    c.in_ok-push-2.ensures.bytes ∙ ap (λ e. string_bytes c.push_str.new.self ++ e) (encode_ascii 10 (lit< tt)) ∙ ap (λ t. t ++ (10 ∷ [])) (c.in_ok-push_str.ensures.bytes ∙ ap (λ t. t ++ c.args.text.now) c.in_ok-reserve.ensures.bytes) in
    rw (text, c.in_ok-push.ensures.items, end) (text_grid _ _ _ _ _ c.self.view_is c.self.invariant.3)
