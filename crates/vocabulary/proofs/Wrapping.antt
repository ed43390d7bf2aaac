-- Layers of fresh terms, one more at the inner end.
use Rattle.std.proofs.Common.{◌≡◌, ◌↔◌, refl, ap, List, [], ◌∷◌, ◌++◌}
use Rattle.vocabulary.specs.declared.ids.LinkId.{LinkId}
use Rattle.vocabulary.specs.declared.ids.Dir.{Dir}
use Rattle.vocabulary.specs.declared.term.Term.{Term, New}
use Rattle.vocabulary.specs.Terms.{text_of, wrapped}
use Rattle.vocabulary.proofs.Fresh.{new_injective, open_new}

pub wrapped_last : (layers : List (LinkId × Dir)) (p : LinkId) (d : Dir) (t : Term) → wrapped (layers ++ (p, d) ∷ []) t ≡ wrapped layers (New p d t)
wrapped_last [] p d t = refl
wrapped_last (layer ∷ layers) p d t = ap (New layer.0 layer.1) (wrapped_last layers p d t)

-- two fresh terms of one link and direction are one where their parents are
pub same_layer : (p : LinkId) (d : Dir) (t u : Term) → (New p d t ≡ New p d u) ↔ (t ≡ u)
same_layer p d t u = (new_injective, ap (New p d))

-- a fresh term has the text of its parent
pub text_new : (p : LinkId) (d : Dir) (t : Term) → text_of (New p d t) ≡ text_of t
unfolding open_new
text_new p d t = refl
