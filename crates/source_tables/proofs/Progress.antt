-- Each record of a text is taken off its front, so as many turns as there are bytes and one more take all.
use Rattle.std.proofs.Common.{◌≡◌, refl, ap, subst, ◌+◌, ◌<◌, ◌≤◌, inl, inr, ◌==◌, ◌||◌, if◌then◌else◌, Bool, true, false, ℕ, zero, suc, List, [], ◌∷◌, ◌++◌, length, Option, Some, None, arith, add-one}
use Rattle.csv.specs.Machine.{Read, next_record, step, is_end, fields_after, in_field, start_field, start_record, ends_at_end}
use Rattle.csv.specs.Reading.{default_config, records_from, records_next}
use Rattle.csv.specs.declared.parser.State.{State}
use Rattle.csv.specs.declared.parser.State.TheVariants as st
use Rattle.csv.specs.declared.parser.Action.{Action}
use Rattle.csv.specs.declared.parser.Action.TheVariants as act
use Rattle.source_tables.specs.Reading.{IsBetween}

-- a step that ends a record leaves the machine between two records
abbrev EndsBetween : State × Action → Type 0
EndsBetween x = is_end x.1 ≡ true → IsBetween x.0

chooses : (b : Bool) (x y : State × Action) → EndsBetween x → EndsBetween y → EndsBetween (if b then x else y)
chooses true x y f g = f
chooses false x y f g = g

no_end : (s : State) → EndsBetween (s, act.Skip)
no_end s e = cc

no_copy : (s : State) → EndsBetween (s, act.Copy)
no_copy s e = cc

no_field : (s : State) → EndsBetween (s, act.EndField)
no_field s e = cc

line_end : (b : Bool) → EndsBetween ((if b then st.AfterCr else st.StartRecord), act.EndRecord)
line_end true e = inr refl
line_end false e = inl refl

in_field_between : (c : ℕ) → EndsBetween (in_field default_config c)
in_field_between c = chooses (c == 44) _ _ (no_field _) (chooses ((c == 13) || (c == 10)) _ _ (line_end (c == 13)) (no_copy _))

start_field_between : (c : ℕ) → EndsBetween (start_field default_config c)
start_field_between c = chooses (c == 34) _ _ (no_end _) (in_field_between c)

start_record_between : (c : ℕ) → EndsBetween (start_record default_config c)
start_record_between c = chooses ((c == 13) || (c == 10)) _ _ (no_end _) (start_field_between c)

step_between : (s : State) (c : ℕ) → EndsBetween (step default_config s c)
step_between st.StartRecord c = start_record_between c
step_between st.StartField c = start_field_between c
step_between st.InField c = in_field_between c
step_between st.InQuoted c = chooses (c == 34) _ _ (no_end _) (no_copy _)
step_between st.InEscape c = no_copy _
step_between st.AfterQuote c = chooses (c == 34) _ _ (no_copy _) (in_field_between c)
step_between st.InComment c = chooses (c == 10) _ _ (no_end _) (no_end _)
step_between st.AfterCr c = chooses (c == 10) _ _ (no_end _) (start_record_between c)

-- what a record leaves: a place between records, and no longer a text
pub record Past (text : List ℕ) (r : Read) : Type 0 where
  pub between : IsBetween r.1
  pub shorter : length r.2 ≤ length text

some_is : {A : Type 0} (x y : A) → Some x ≡ Some y → x ≡ y
some_is x y e = cc

ended : (b : Bool) (x r : Read) (o : Option Read) → (b ≡ false → o ≡ Some r → Past x.2 r) → (b ≡ true → Past x.2 x) → (if b then Some x else o) ≡ Some r → Past x.2 r
ended true x r o f g e = subst (λ (y : Read). Past x.2 y) (some_is x r e) (g refl)
ended false x r o f g e = f refl e

pub past : (s : State) (fields : List (List ℕ)) (field text : List ℕ) (r : Read)
    → next_record default_config s fields field text ≡ Some r → Past text r
unfolding next_record
past s fields field [] r e = ended (ends_at_end s) (fields ++ (field ∷ []), st.StartRecord, []) r None (λ _ n. cc) (λ _. record { between = inl refl; shorter = omega arith }) e
past s fields field (c ∷ rest) r e =
    let p = ended (is_end (step default_config s c).1) (fields_after (step default_config s c).1 fields field, (step default_config s c).0, rest) r _
    (λ _ n. past (step default_config s c).0 _ _ rest r n)
    (λ i. record { between = step_between s c i; shorter = omega arith }) e in
    record { between = p.between; shorter = omega arith }

never : {r : Read} → None ≡ Some r → ⊥
never e = cc

-- between records there is a next one only where bytes are left, and it takes some of them
pub record Next (text : List ℕ) (r : Read) : Type 0 where
  pub between : IsBetween r.1
  pub fewer : length r.2 < length text

pub next_past : (s : State) (text : List ℕ) (r : Read) → IsBetween s → next_record default_config s [] [] text ≡ Some r → Next text r
unfolding next_record
next_past s [] r b e = elim b [ inl at ↦ absurd (never (rw at at e)) | inr at ↦ absurd (never (rw at at e)) ]
next_past s (c ∷ rest) r b e =
    let p = ended (is_end (step default_config s c).1) (fields_after (step default_config s c).1 [] [], (step default_config s c).0, rest) r _
    (λ _ n. past (step default_config s c).0 _ _ rest r n)
    (λ i. record { between = step_between s c i; shorter = omega arith }) e in
    record { between = p.between; fewer = omega arith }

same_next : (o : Option Read) (m n : State → List ℕ → List (List (List ℕ)))
    → ((r : Read) → o ≡ Some r → m r.1 r.2 ≡ n r.1 r.2) → records_next m o ≡ records_next n o
same_next None m n f = refl
same_next (Some r) m n f = ap (λ x. r.0 ∷ x) (f r refl)

-- more turns than bytes change nothing
pub enough : (m n : ℕ) (s : State) (text : List ℕ) → IsBetween s → length text < m → length text < n
    → records_from default_config m s text ≡ records_from default_config n s text
unfolding records_from
enough zero n s text b lm ln = absurd (omega arith)
enough (suc m) zero s text b lm ln = absurd (omega arith)
enough (suc m) (suc n) s text b lm ln =
    same_next (next_record default_config s [] [] text) (records_from default_config m) (records_from default_config n)
    (λ r e. let p = next_past s text r b e in enough m n r.1 r.2 p.between (omega arith) (omega arith))

-- the records left of a text, by its next record
abbrev pub left_of : Option Read → List (List (List ℕ))
left_of None = []
left_of (Some r) = r.0 ∷ records_from default_config (length r.2 + 1) r.1 r.2

each : (o : Option Read) (n : ℕ) → ((r : Read) → o ≡ Some r → records_from default_config n r.1 r.2 ≡ records_from default_config (length r.2 + 1) r.1 r.2)
    → records_next (records_from default_config n) o ≡ left_of o
each None n f = refl
each (Some r) n f = ap (λ x. r.0 ∷ x) (f r refl)

unrolled : (s : State) (text : List ℕ) → IsBetween s
    → records_from default_config (suc (length text)) s text ≡ left_of (next_record default_config s [] [] text)
unfolding records_from
unrolled s text b = each (next_record default_config s [] [] text) (length text)
    (λ r e. let p = next_past s text r b e in enough (length text) (length r.2 + 1) r.1 r.2 p.between (omega arith) (omega arith))

pub left_next : (s : State) (text : List ℕ) → IsBetween s
    → records_from default_config (length text + 1) s text ≡ left_of (next_record default_config s [] [] text)
left_next s text b = rw add-one (unrolled s text b)
