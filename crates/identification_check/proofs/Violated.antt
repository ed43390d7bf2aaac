-- A violation where neighbours have the same values, and none where none have.
use Rattle.std.proofs.Common.{◌≡◌, refl, sym, ◌∙◌, ap, subst, ◌+◌, ◌<◌, ◌≤◌, List, [], ◌∷◌, ◌++◌, length, length-append, take, get_or, All, arith}
use Rattle.std.proofs.lemmas.List.{same_from_push, take_at}
use Rattle.vocabulary.specs.declared.ids.ClassId.{ClassId}
use Rattle.vocabulary.specs.declared.ids.LinkId.{LinkId}
use Rattle.vocabulary.specs.declared.term.Term.{Term}
use Rattle.vocabulary.specs.declared.term.Fact.{Fact}
use Rattle.vocabulary.specs.declared.term.Fact.TheVariants.{InClass, Linked}
use Rattle.vocabulary.specs.Lists.{In, here, there, IsListOf}
use Rattle.vocabulary.specs.Terms.{IsKnown, IsKnownFact}
use Rattle.dllite_axioms.specs.declared.axioms.Axiom.{Axiom}
use Rattle.dllite_axioms.specs.declared.axioms.Constraint.TheVariants.{Identified}
use Rattle.dllite_axioms.specs.Clashes.{Clash, IsContradicted}
use Rattle.source_tables.specs.Tables.{Loaded}
use Rattle.negative_closure.specs.Chains.{Hierarchy}
use Rattle.negative_closure.proofs.Places.{In-at}
use Rattle.queries.specs.declared.query.Query.{Query}
use Rattle.queries.specs.Order.{tuple_cmp}
use Rattle.mapping_facts.specs.declared.mapping.Mapping.{Mapping}
use Rattle.mapping_facts.specs.Facts.{mapped_facts}
use Rattle.mapping_facts.proofs.Members.{In-All}
use Rattle.mapping_saturation.specs.Saturation.{GiveTheKnown}
use Rattle.query_images.specs.Images.{IsImage}
use Rattle.identification_check.specs.declared.violation.Violation.{Violation}
use Rattle.identification_check.specs.Asking.{members_query}
use Rattle.identification_check.specs.Chained.{AreChained, IsDerivable, most_of}
use Rattle.identification_check.specs.Members.{AreTwinFacts, HasValues, IsMemberTuple, NoneAreTwins, twin_facts}
use Rattle.identification_check.specs.Violations.{AreAttributes, IsViolation}
use Rattle.identification_check.proofs.Asked.{image_member, member_image, values_length}
use Rattle.identification_check.proofs.Clashing.{clash_shares, pairs_join, twins_all, twins_clash, twins_cost}
use Rattle.identification_check.proofs.Fronts.{neighbours_differ, told_apart}

module _ (saturated : List Mapping) (tables : List Loaded) (a : ClassId) (us : List LinkId) where
  -- the facts that are known
  abbrev F : List Fact
  F = mapped_facts saturated tables

  abbrev Listed : List (List Term) → Type 0
  Listed tuples = IsListOf tuple_cmp (IsImage F (members_query a us)) tuples

  -- a tuple is its values and its member
  record IsSplit (ts : List Term) : Type 0 where
    pub member : Term
    pub are : ts ≡ take (length us) ts ++ member ∷ []
    pub stand : HasValues F a us (take (length us) ts) member

  split : (ts : List Term) → IsMemberTuple F a us ts → IsSplit ts
  split ts w =
      let long = values_length F a us w.values w.member w.stand in
      let front : take (length us) ts ≡ w.values = ap (take (length us)) w.are ∙ take_at w.values (w.member ∷ []) (length us) long in
      record {
        member = w.member;
        are = w.are ∙ ap (λ vs. vs ++ w.member ∷ []) (sym front);
        stand = subst (λ vs. HasValues F a us vs w.member) (sym front) w.stand;
      }

  -- by the list that was made
  pub listed_by : (q : Query) (tuples : List (List Term)) → q ≡ members_query a us → IsListOf tuple_cmp (IsImage F q) tuples → Listed tuples
  listed_by q tuples same listed = subst (λ r. IsListOf tuple_cmp (IsImage F r) tuples) same listed

  tuple_long : (tuples : List (List Term)) → Listed tuples → (ts : List Term) → In ts tuples → length ts ≡ length us + 1
  tuple_long tuples listed ts i =
      let w = image_member F a us ts (listed.each ts i) in
      let long = values_length F a us w.values w.member w.stand in
      let all = ap length w.are ∙ length-append w.values (w.member ∷ []) in
      omega (arith, long, all)

  pub tuples_long : (tuples items : List (List Term)) → Listed tuples → items ≡ tuples → All (λ ts. length ts ≡ length us + 1) items
  tuples_long tuples items listed same = In-All (λ ts. length ts ≡ length us + 1) items (λ ts i. tuple_long tuples listed ts (subst (In ts) same i))

  -- two neighbours with the same values
  pub record AreFound (facts : List Fact) : Type 0 where
    pub values : List Term
    pub x : Term
    pub y : Term
    pub are : facts ≡ twin_facts a us values x y
    pub differ : x ≡ y → ⊥
    pub one : HasValues F a us values x
    pub two : HasValues F a us values y

  pub found : (tuples items : List (List Term)) (facts : List Fact) → Listed tuples → items ≡ tuples → AreTwinFacts a us items facts → AreFound facts
  found tuples items facts listed same twins =
      let w = subst (λ ts. AreTwinFacts a us ts facts) same twins in
      let one : List Term = get_or tuples w.at [] in
      let two : List Term = get_or tuples (w.at + 1) [] in
      let low = w.within in
      let p = w.facts_of in
      let s = split one (image_member F a us one (listed.each one (In-at tuples w.at [] (omega (arith, low))))) in
      let t = split two (image_member F a us two (listed.each two (In-at tuples (w.at + 1) [] low))) in
      let x_is : s.member ≡ p.x = (same_from_push (take (length us) one) (take (length us) one) s.member p.x (sym s.are ∙ p.one_is)).1 in
      let y_is : t.member ≡ p.y = (same_from_push (take (length us) two) (take (length us) two) t.member p.y (sym t.are ∙ p.two_is)).1 in
      record {
        values = take (length us) one;
        x = p.x;
        y = p.y;
        are = p.are;
        differ = λ e. neighbours_differ tuples w.at listed.ordered low (p.one_is ∙ (λ j. w.twins j ++ e j ∷ []) ∙ sym p.two_is);
        one = subst (HasValues F a us (take (length us) one)) x_is s.stand;
        two = subst (λ vs. HasValues F a us vs p.y) (sym w.twins) (subst (HasValues F a us (take (length us) two)) y_is t.stand);
      }

  pub found_cost : (axioms : List Axiom) (facts : List Fact) → AreFound facts → AreAttributes axioms us → most_of facts ≤ 8_000
  found_cost axioms facts w attributes = subst (λ fs. most_of fs ≤ 8_000) (sym w.are) (twins_cost a us w.values w.x w.y attributes.few)

  module _ (h : Hierarchy) (mappings : List Mapping) where
    -- no clash where no neighbours have the same values
    pub not_violated : (tuples : List (List Term)) → GiveTheKnown h.axioms mappings saturated → Listed tuples → NoneAreTwins (length us) tuples → IsContradicted h.axioms (mapped_facts mappings tables) (Identified a us) → ⊥
    not_violated tuples known listed differ c =
        let w = c.clash in
        let all = λ (f : Fact) (i : In f c.clashing) (k : IsKnownFact f). (known tables f).1 ((c.round, c.stand f i), k) in
        let x : Term = w.0 in
        let y : Term = w.1 in
        let shared = clash_shares F us x y w.2 w.4 w.5 (λ f i k. all f (subst (In f) (sym w.3) (there (there i))) k) w.7 in
        let one : HasValues F a us shared.values x = record { is_member = all (InClass a x) (subst (In (InClass a x)) (sym w.3) (here refl)) w.4; has_values = shared.one } in
        let two : HasValues F a us shared.values y = record { is_member = all (InClass a y) (subst (In (InClass a y)) (sym w.3) (there (here refl))) w.5; has_values = shared.two } in
        let long = values_length F a us shared.values x one in
        let front = take_at shared.values (x ∷ []) (length us) long in
        let front' = take_at shared.values (y ∷ []) (length us) long in
        let same = told_apart (length us) tuples (λ ts i. (let count = tuple_long tuples listed ts i in omega (arith, count))) listed.ordered differ
        (shared.values ++ x ∷ []) (shared.values ++ y ∷ [])
        (listed.all (shared.values ++ x ∷ []) (member_image F a us shared.values x one)) (listed.all (shared.values ++ y ∷ []) (member_image F a us shared.values y two))
        (front ∙ sym front') in
        w.6 (same_from_push shared.values shared.values x y same).1

    -- its facts can be derived
    class_derivable : GiveTheKnown h.axioms mappings saturated → a.0 < h.classes → (x : Term) → In (InClass a x) F → IsDerivable h mappings tables (InClass a x)
    class_derivable known within x i =
        let k = (known tables (InClass a x)).0 i in
        record { known = k.1; within = within; unturned = tt; round = k.0.0; stands = k.0.1 }

    link_derivable : GiveTheKnown h.axioms mappings saturated → ((u : LinkId) → In u us → u.0 < h.links) → AreAttributes h.axioms us → (u : LinkId) (x v : Term) → In u us → In (Linked u x v) F → IsDerivable h mappings tables (Linked u x v)
    link_derivable known within attributes u x v m i =
        let k = (known tables (Linked u x v)).0 i in
        record { known = k.1; within = within u m; unturned = attributes.unturned u m; round = k.0.0; stands = k.0.1 }

    pub found_derivable : (facts : List Fact) → AreFound facts → GiveTheKnown h.axioms mappings saturated → a.0 < h.classes → ((u : LinkId) → In u us → u.0 < h.links) → AreAttributes h.axioms us → (f : Fact) → In f facts → IsDerivable h mappings tables f
    found_derivable facts w known within links attributes f i =
        twins_all (IsDerivable h mappings tables) a us w.values w.x w.y (class_derivable known within w.x w.one.is_member) (class_derivable known within w.y w.two.is_member)
        (pairs_join (λ u v. In (Linked u w.x v) F) (λ u v. In (Linked u w.y v) F) (λ u v. IsDerivable h mappings tables (Linked u w.x v) × IsDerivable h mappings tables (Linked u w.y v)) us w.values
        (λ u v m p q. (link_derivable known links attributes u w.x v m p, link_derivable known links attributes u w.y v m q)) w.one.has_values w.two.has_values)
        f (subst (In f) w.are i)

    -- and clash
    pub violated : (facts : List Fact) (v : Violation) → AreFound facts → GiveTheKnown h.axioms mappings saturated → AreAttributes h.axioms us → AreChained h.axioms mappings tables facts v → IsViolation h.axioms mappings tables (Identified a us) v
    violated facts v w known attributes chained =
        let cost = found_cost h.axioms facts w attributes in
        let few = chained.few in
        record {
          facts = chained.facts;
          run = chained.run;
          clash = (facts, chained.ends, subst (Clash (Identified a us)) (sym w.are) clash);
          few = omega (arith, cost, few);
        }
      where
        known_member : (x : Term) → In (InClass a x) F → IsKnown x
        known_member x i = ((known tables (InClass a x)).0 i).1

        clash : Clash (Identified a us) (twin_facts a us w.values w.x w.y)
        clash =
            twins_clash a us w.values w.x w.y (known_member w.x w.one.is_member) (known_member w.y w.two.is_member) w.differ
            (pairs_join (λ u v. In (Linked u w.x v) F) (λ u v. In (Linked u w.x v) F) (λ u v. IsKnown v) us w.values (λ u v m p q. ((known tables (Linked u w.x v)).0 p).1.1) w.one.has_values w.one.has_values)
