-- Atoms of one class or link are the same where their arguments are.
use Rattle.std.proofs.Common.{◌≡◌, ◌↔◌}
use Rattle.std.proofs.lemmas.Result.{IfOk-weaker}
use Rattle.vocabulary.specs.declared.ids.ClassId.{ClassId}
use Rattle.vocabulary.specs.declared.ids.LinkId.{LinkId}
use Rattle.queries.specs.declared.query.Arg.{Arg}
use Rattle.queries.specs.declared.query.Atom.TheVariants.{InClass, Linked}
use Rattle.query_subsumption.specs.Numbered.{as_arg}
use Rattle.query_subsumption.specs.Search.{Solves}
use Rattle.query_subsumption.specs.Subsumption.{Replacement, arg_image}
use Rattle.query_subsumption.proofs.Solving.{solves_as}
use Rattle.query_subsumption.proofs.bindings.send_atom.Goals as goal

same_class : (a b : ClassId) (x y : Arg) → a.0 ≡ b.0 → (x ≡ y) ↔ (InClass a x ≡ InClass b y)
same_class a b x y h = (λ e. λ i. InClass (record { 0 = h i }) (e i), λ e. cc)

same_link : (p q : LinkId) (x y z w : Arg) → p.0 ≡ q.0 → ((x ≡ z) × (y ≡ w)) ↔ (Linked p x y ≡ Linked q z w)
same_link p q x y z w h = (λ e. λ i. Linked (record { 0 = h i }) (e.0 i) (e.1 i), λ e. (cc, cc))

pub returns-else-a-b : goal.returns-else-a-b
returns-else-a-b c =
    let x = as_arg c.in-InClass-InClass.x in
    let y = as_arg c.in-InClass-InClass.y in
    let P : Replacement → Type 0 = λ θ. arg_image θ x ≡ y in
    let Q : Replacement → Type 0 = λ θ. InClass c.in-InClass-InClass.a (arg_image θ x) ≡ InClass c.in-InClass-InClass.b y in
    rw (c.in-InClass-InClass.is-0, c.in-InClass-InClass.is-1)
    (IfOk-weaker c.send.result
    (Solves P c.args.bindings.now.items c.send.new.bindings.items)
    (Solves Q c.args.bindings.now.items c.send.new.bindings.items)
    (λ fits s. solves_as P Q (λ θ. same_class c.in-InClass-InClass.a c.in-InClass-InClass.b (arg_image θ x) y c.if-a-b.false) s)
    c.send.ensures)

pub returns-else-p-q : goal.returns-else-p-q
returns-else-p-q c =
    let x = as_arg c.in-Linked-Linked.x in
    let y = as_arg c.in-Linked-Linked.y in
    let z = as_arg c.in-Linked-Linked.z in
    let w = as_arg c.in-Linked-Linked.w in
    let P : Replacement → Type 0 = λ θ. (arg_image θ x ≡ z) × (arg_image θ y ≡ w) in
    let Q : Replacement → Type 0 = λ θ. Linked c.in-Linked-Linked.p (arg_image θ x) (arg_image θ y) ≡ Linked c.in-Linked-Linked.q z w in
    rw (c.in-Linked-Linked.is-0, c.in-Linked-Linked.is-1)
    (IfOk-weaker c.send_two.result
    (Solves P c.args.bindings.now.items c.send_two.new.bindings.items)
    (Solves Q c.args.bindings.now.items c.send_two.new.bindings.items)
    (λ fits s. solves_as P Q (λ θ. same_link c.in-Linked-Linked.p c.in-Linked-Linked.q (arg_image θ x) (arg_image θ y) z w c.if-p-q.false) s)
    c.send_two.ensures)
