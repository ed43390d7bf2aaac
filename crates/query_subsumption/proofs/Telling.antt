-- The images that a search tells are those of a mapping, and what no variable has is Blank.
use Rattle.std.proofs.Common.{◌≡◌, ◌≢◌, sym, subst, ap, refl, ◌∙◌, ℕ, ◌+◌, ◌<◌, true, false, List, [], ◌∷◌, length, map, nat_eq, ◌⊎◌, inl, inr, Some, slice_get, if◌then◌else◌, arith}
use Rattle.std.proofs.lemmas.Bool.{eq-eqb, ne_eqb}
use Rattle.std.proofs.lemmas.Bool.Decides.{eqb_tells}
use Rattle.vocabulary.specs.declared.ids.VarId.{VarId}
use Rattle.vocabulary.specs.Lists.{In, here, there}
use Rattle.vocabulary.proofs.Lists.{In-map}
use Rattle.queries.specs.declared.query.Arg.{Arg}
use Rattle.queries.specs.declared.query.Arg.TheVariants.{Blank, Var, Fixed}
use Rattle.queries.specs.declared.query.Atom.{Atom}
use Rattle.queries.specs.declared.query.Atom.TheVariants.{InClass, Linked}
use Rattle.queries.specs.declared.query.Query.{Query}
use Rattle.queries.specs.Occurrences.{atom_occurs, count, head_count, occurs}
use Rattle.query_subsumption.specs.declared.bindings.Binding.{Binding}
use Rattle.query_subsumption.specs.declared.numbering.Node.{Node}
use Rattle.query_subsumption.specs.declared.numbering.Node.TheVariants.{Numbered as NumberedNode, Constant}
use Rattle.query_subsumption.specs.declared.numbering.Numbered.{Numbered}
use Rattle.query_subsumption.specs.Images.{AreImages, told}
use Rattle.query_subsumption.specs.Numbered.{IsNumbered, as_arg, as_query}
use Rattle.query_subsumption.specs.Search.{Agrees, Found, reading}
use Rattle.query_subsumption.specs.Subsumption.{IsMapping, Replacement, apart, apart_arg, apart_args, apart_atom, apart_atoms, arg_image, atom_image, blanks_in_arg, blanks_in_args, blanks_in_atom, first_free}
use Rattle.query_subsumption.proofs.Solving.{var}

-- a replacement that gives Blank for one variable
abbrev but : Replacement → VarId → Replacement
but θ v w = if nat_eq w.0 v.0 then Blank else θ w

other_var : (θ : Replacement) (v w : VarId) → w.0 ≢ v.0 → but θ v w ≡ θ w
other_var θ v w h = rw (ne_eqb w.0 v.0 h) refl

unlike : (v w : VarId) → occurs v (Var w) ≡ 0 → w.0 ≢ v.0
unlike v w none h = let e : nat_eq w.0 v.0 ≡ true = eq-eqb w.0 v.0 h in let k = rw e at none in omega (arith, k)

-- it has the images of the other where the variable does not stand
same_arg : (θ : Replacement) (v : VarId) (n : ℕ) (x : Arg) → v.0 < n → occurs v x ≡ 0 → arg_image (but θ v) (apart_arg n x) ≡ arg_image θ (apart_arg n x)
same_arg θ v n Blank low none = other_var θ v (var n) (omega arith)
same_arg θ v n (Var w) low none = other_var θ v w (unlike v w none)
same_arg θ v n (Fixed t) low none = refl

same_args : (θ : Replacement) (v : VarId) (n : ℕ) (xs : List Arg) → v.0 < n → head_count v xs ≡ 0 → map (arg_image (but θ v)) (apart_args n xs) ≡ map (arg_image θ) (apart_args n xs)
same_args θ v n [] low none = refl
same_args θ v n (x ∷ xs) low none =
    let e = same_arg θ v n x low (omega arith) in
    let es = same_args θ v (n + blanks_in_arg x) xs (omega arith) (omega arith) in λ i. e i ∷ es i

same_atom : (θ : Replacement) (v : VarId) (n : ℕ) (a : Atom) → v.0 < n → atom_occurs v a ≡ 0 → atom_image (but θ v) (apart_atom n a) ≡ atom_image θ (apart_atom n a)
same_atom θ v n (InClass c x) low none = λ i. InClass c (same_arg θ v n x low none i)
same_atom θ v n (Linked p x y) low none =
    let e = same_arg θ v n x low (omega arith) in
    let f = same_arg θ v (n + blanks_in_arg x) y (omega arith) (omega arith) in λ i. Linked p (e i) (f i)

same_atoms : (θ : Replacement) (v : VarId) (n : ℕ) (atoms : List Atom) → v.0 < n → count v atoms ≡ 0 → map (atom_image (but θ v)) (apart_atoms n atoms) ≡ map (atom_image θ) (apart_atoms n atoms)
same_atoms θ v n [] low none = refl
same_atoms θ v n (a ∷ atoms) low none =
    let e = same_atom θ v n a low (omega arith) in
    let es = same_atoms θ v (n + blanks_in_atom a) atoms (omega arith) (omega arith) in λ i. e i ∷ es i

-- a variable is bound, or its image is Blank
bound_or_blank : (bs : List Binding) (v : VarId) → (reading bs v ≡ Blank) ⊎ ((b : Binding) × In b bs × (b.number ≡ v.0))
bound_or_blank [] v = inl refl
bound_or_blank (b ∷ bs) v = elim (eqb_tells b.number v.0) [
  | inl w ↦ inr (b, here refl, w.1)
  | inr w ↦ (let e : nat_eq b.number v.0 ≡ false = w.0 in elim (bound_or_blank bs v) [ inl h ↦ inl (rw e h) | inr r ↦ inr (r.0, there r.1, r.2) ])
]

never_blank : (x : Node) → Blank ≡ as_arg x → ⊥
never_blank (NumberedNode n) e = cc
never_blank (Constant t) e = cc

unused_blank : (g s : Query) (new : List Binding) → Found (apart g) (apart s) new → (v : VarId) → v.0 < first_free g → head_count v g.head ≡ 0 → count v g.atoms ≡ 0 → reading new v ≡ Blank
unused_blank g s new f v low h a = elim (bound_or_blank new v) [
  | inl e ↦ e
  | inr r ↦ (let θ = reading new in
      let w = (f.exact θ).0 f.sound in
      let heads = same_args θ v (first_free g) g.head low h in
      let atoms = same_atoms θ v (first_free g + blanks_in_args g.head) g.atoms (omega arith) a in
      let agrees : Agrees (but θ v) new = (f.exact (but θ v)).1 (heads ∙ w.0, atoms ∙ w.1) in
      let e : but θ v (var r.0.number) ≡ as_arg r.0.image = agrees r.0 r.1 in
      let k : but θ v (var r.0.number) ≡ Blank = rw (eq-eqb r.0.number v.0 r.2) refl in
      absurd (never_blank r.0.image (sym k ∙ e)))
]

mapping_of : (g s : Query) (new : List Binding) → Found g s new → IsMapping (reading new) g s
mapping_of g s new f = let w = (f.exact (reading new)).0 f.sound in
    record { heads = w.0; atoms = λ a m. f.each (atom_image (reading new) a) (subst (λ as_list. In (atom_image (reading new) a) as_list) w.1 (In-map (atom_image (reading new)) m)) }

pub are_images : (g s : Query) (from to : Numbered) (new : List Binding) (out : List Arg) → IsNumbered g from → IsNumbered s to → Found (as_query from) (as_query to) new →
    length out ≡ from.end → ((n : ℕ) → n < from.end → slice_get out n ≡ Some (told to.blanks_from (reading new (var n)))) → AreImages g s out
are_images g s from to new out a b f size each =
    let found : Found (apart g) (apart s) new = subst (λ q. Found (apart g) q new) b.same (subst (λ q. Found q (as_query to) new) a.same f) in
    record {
      θ = reading new;
      maps = mapping_of (apart g) (apart s) new found;
      size = size ∙ a.end;
      each = λ n low. each n (subst (λ k. n < k) (sym a.end) low) ∙ ap (λ k. Some (told k (reading new (var n)))) b.blanks_from;
      unused = unused_blank g s new found;
    }
