-- A line that breaks no rule gives what is grown with it.
use Rattle.std.proofs.Common.{◌≡◌, refl, ℕ, None, Ok}
use Rattle.uml_model.specs.Rules.{Known, class_named, link_named}
use Rattle.annotation_language.specs.Written.{Line}
use Rattle.annotation_language.specs.Lines.{Noted, broken, grown}
use Rattle.annotation_language.specs.Reading.{read_as}

pub read_is : (model : Known) (number : ℕ) (s : Noted) (line : Line) (new : Noted) → broken (class_named model) (link_named model) s line ≡ None → new ≡ grown (class_named model) (link_named model) number s line → read_as model number s line ≡ Ok new
read_is model number s line new unbroken same = rw (unbroken, same) refl
