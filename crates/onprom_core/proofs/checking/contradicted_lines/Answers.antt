use Rattle.std.proofs.Common.{◌≡◌, ◌∙◌, ap, sym, ℕ, ◌+◌, ◌<◌, List, [], ◌∷◌, ◌++◌, length, get_or, take, codes, decimal}
use Rattle.std.proofs.lemmas.Grind.{flat_map-append}
use Rattle.std.proofs.lemmas.List.{append-nil, take_more}
use Rattle.conflict_checker.specs.declared.derivation.Derivation.{Derivation}
use Rattle.onprom_core.specs.Lines.{named_line}
use Rattle.onprom_core.specs.Meaning.{contradicted_lines}
use Rattle.onprom_core.proofs.checking.contradicted_lines.Goals as goal

abbrev line : Derivation → List ℕ
line d = named_line (codes "contradicted ") (decimal d.constraint) (codes "\n")

one_more : (ds : List Derivation) (i : ℕ) (d : Derivation) → i < length ds → d ≡ get_or ds i d → contradicted_lines (take (i + 1) ds) ≡ contradicted_lines (take i ds) ++ line d
one_more ds i d low is =
    ap contradicted_lines (take_more ds i d low) ∙ flat_map-append line (take i ds) (get_or ds i d ∷ [])
    ∙ ap (λ x. contradicted_lines (take i ds) ++ x) (append-nil (line (get_or ds i d)) ∙ ap line (sym is))

grown : (ds : List Derivation) (i : ℕ) (d : Derivation) (old new text slice : List ℕ) → i < length ds → d ≡ get_or ds i d → old ≡ contradicted_lines (take i ds) → text ≡ line d → slice ≡ text → new ≡ old ++ slice → new ≡ contradicted_lines (take (i + 1) ds)
grown ds i d old new text slice low at before said seen after = rw (after, seen, said, before) (sym (one_more ds i d low at))

pub loop-derivation-preserved : goal.loop-derivation-preserved
loop-derivation-preserved c =
    grown c.args.found.now c.loop-derivation.derivation-index c.derivation-item.result c.loop-derivation.report c.append.new.self c.in_ok-line.line c.slice.result.now
    c.loop-derivation-test.true c.derivation-item.is c.loop-derivation.invariant c.in_ok-line.ensures c.slice.ensures c.in_ok-append.ensures.ok
