-- A line is read by its first word.
use Rattle.std.proofs.Common.{◌≡◌, ◌≢◌, refl, sym, subst, ◌∙◌, ap, ◌&&◌, not, ℕ, Bool, true, false, List, [], ◌∷◌, Option, Some, None, Result, Ok, Err, OnOk, IfOk, IfErr, is_some, if◌then◌else◌, codes}
use Rattle.std.specs.Str.{bytes_eq}
use Rattle.std.proofs.lemmas.Slice.Eq.{bytes_eq-Decides}
use Rattle.line_lexer.specs.Tokens.{Seen, Begins}
use Rattle.line_lexer.specs.Grammar.{◌>>=◌, expect, is_quoted_shape}
use Rattle.line_lexer.specs.Judging.{read_by}
use Rattle.line_lexer.specs.declared.shape.Shape.{Shape}
use Rattle.line_lexer.specs.declared.shape.Shape.TheVariants.{Word, Quoted, Number, Sign}
use Rattle.line_lexer.specs.declared.fault.LineFault.{LineFault}
use Rattle.line_lexer.specs.declared.fault.LineFault.TheVariants as line_fault
use Rattle.uml_model.specs.Lines.{model_line}
use Rattle.uml_model.specs.Rules as model
use Rattle.uml_model.specs.Rules.{class_named, link_named}
use Rattle.mapping_language.specs.Grammar.{source_line, map_line}
use Rattle.mapping_language.specs.Tables as tables
use Rattle.mapping_language.specs.Mappings as mappings
use Rattle.annotation_language.specs.Grammar.{annotation_line}
use Rattle.annotation_language.specs.Lines as notes
use Rattle.project_language.specs.declared.project.Project.{Project}
use Rattle.project_language.specs.Project.{again, begins_with, is_end, is_opening, is_of_tables, is_of_mappings, is_of_notes, map_ok, opening, read_model, read_seen, read_tokens, with_sources, with_notes, with_model}

-- what the reader of a part answers is what the line gives
pub read_of : {A T : Type 0} (f : A → Project) (r : Result T LineFault) (whole : Result Project LineFault) (part : Result A LineFault) (x : A) → whole ≡ map_ok f part → OnOk r (part ≡ Ok x) → OnOk r (whole ≡ Ok (f x))
read_of f (Ok v) whole part x is read = is ∙ ap (map_ok f) read
read_of f (Err e) whole part x is read = tt

pub fault_of : {A T : Type 0} (f : A → Project) (r : Result T LineFault) (whole : Result Project LineFault) (part : Result A LineFault) → whole ≡ map_ok f part
    → IfErr r (λ e. e ≢ line_fault.NoMemory → part ≡ Err e) → IfErr r (λ e. e ≢ line_fault.NoMemory → whole ≡ Err e)
fault_of f (Ok v) whole part is fault = tt
fault_of f (Err e) whole part is fault = λ known. is ∙ ap (map_ok f) (fault known)

-- these tokens where a test holds
abbrev where_told : Bool → List Seen → Option (List Seen)
where_told c ts = if c then Some ts else None

-- the opening line again, and what its reader answers
abbrev in_no_form : Bool → Result Project LineFault
in_no_form given = if given then Err line_fault.Syntax else Err line_fault.Syntax

abbrev refused_again : Bool → Bool → Result Project LineFault
refused_again given is = if is then Err line_fault.Double else in_no_form given

always_syntax : (given : Bool) → in_no_form given ≡ Err line_fault.Syntax
always_syntax true = refl
always_syntax false = refl

abbrev opened_again : Bool → Result Bool LineFault
opened_again is = if is then Ok true else Err line_fault.Syntax

-- the first word alone tells the kind of a line
module _ (t : Seen) where
  word_alone : (word : List ℕ) (ts : List Seen) → is_some (expect word (t ∷ ts)) ≡ is_some (expect word (t ∷ []))
  word_alone word ts = by (not (is_quoted_shape t.shape) && bytes_eq t.text word)
    where
      by : (c : Bool) → is_some (where_told c ts) ≡ is_some (where_told c [])
      by true = refl
      by false = refl

  words_alone : (words : List (List ℕ)) (ts : List Seen) → begins_with words (t ∷ ts) ≡ begins_with words (t ∷ [])
  words_alone [] ts = refl
  words_alone (word ∷ words) ts = rw (word_alone word ts, words_alone words ts) refl

  not_opening : (ts : List Seen) → false ≡ is_some (expect (codes "onprom") (t ∷ [])) → is_opening (t ∷ ts) ≡ false
  not_opening ts h = by (not (is_quoted_shape t.shape) && bytes_eq t.text (codes "onprom")) h
    where
      by : (c : Bool) → false ≡ is_some (where_told c []) → is_end (where_told c ts >>= (λ rest. expect (codes "1") rest)) ≡ false
      by true h = absurd cc
      by false h = refl

  module _ (n : ℕ) (p : Project) (o : Option (List Seen)) (begins : Begins t o) where
    -- what holds of no tokens, and of those that begin so, holds of these
    of_begun : (P : Option (List Seen) → Type 0) → P None → ((ts : List Seen) → P (Some (t ∷ ts))) → P o
    of_begun P none front = by o begins
      where
        by : (o : Option (List Seen)) → Begins t o → P o
        by None b = none
        by (Some ts) b = subst (λ z. P (Some z)) (sym b.1) (front b.0)

    module _ (no : false ≡ is_some (expect (codes "onprom") (t ∷ []))) where
      pub of_tables : true ≡ is_of_tables (t ∷ []) → read_seen n p o ≡ map_ok (λ sources. record p { sources = sources }) (read_by source_line (tables.broken p.sources) (tables.grown p.sources) p.sources o)
      of_tables is = of_begun (λ o. read_seen n p o ≡ with_sources p (read_by source_line (tables.broken p.sources) (tables.grown p.sources) p.sources o)) refl
          (λ ts. rw (not_opening ts no, words_alone (codes "table" ∷ codes "column" ∷ codes "key" ∷ []) ts, ← is) refl)

      module _ (no_table : false ≡ is_of_tables (t ∷ [])) where
        pub of_mappings : true ≡ is_of_mappings (t ∷ []) → read_seen n p o ≡ map_ok (λ sources. record p { sources = sources }) (read_by map_line (mappings.broken (class_named p.model) (link_named p.model) p.sources) (mappings.grown (class_named p.model) (link_named p.model) p.sources) p.sources o)
        of_mappings is = of_begun (λ o. read_seen n p o ≡ with_sources p (read_by map_line (mappings.broken (class_named p.model) (link_named p.model) p.sources) (mappings.grown (class_named p.model) (link_named p.model) p.sources) p.sources o)) refl
            (λ ts. rw (not_opening ts no, words_alone (codes "table" ∷ codes "column" ∷ codes "key" ∷ []) ts, ← no_table, words_alone (codes "map" ∷ []) ts, ← is) refl)

        module _ (no_mapping : false ≡ is_of_mappings (t ∷ [])) where
          pub of_notes : true ≡ is_of_notes (t ∷ []) → read_seen n p o ≡ map_ok (λ noted. record p { noted = noted }) (read_by annotation_line (notes.broken (class_named p.model) (link_named p.model) p.noted) (notes.grown (class_named p.model) (link_named p.model) n p.noted) p.noted o)
          of_notes is = of_begun (λ o. read_seen n p o ≡ with_notes p (read_by annotation_line (notes.broken (class_named p.model) (link_named p.model) p.noted) (notes.grown (class_named p.model) (link_named p.model) n p.noted) p.noted o)) refl
              (λ ts. rw (not_opening ts no, words_alone (codes "table" ∷ codes "column" ∷ codes "key" ∷ []) ts, ← no_table, words_alone (codes "map" ∷ []) ts, ← no_mapping, words_alone (codes "case" ∷ codes "casename" ∷ codes "event" ∷ codes "cases" ∷ codes "set" ∷ codes "query" ∷ []) ts, ← is) refl)

          of_other : false ≡ is_of_notes (t ∷ []) → (ts : List Seen) → read_tokens n p (t ∷ ts) ≡ read_model p (t ∷ ts)
          of_other is ts = rw (not_opening ts no, words_alone (codes "table" ∷ codes "column" ∷ codes "key" ∷ []) ts, ← no_table, words_alone (codes "map" ∷ []) ts, ← no_mapping, words_alone (codes "case" ∷ codes "casename" ∷ codes "event" ∷ codes "cases" ∷ codes "set" ∷ codes "query" ∷ []) ts, ← is) refl

          pub of_model : false ≡ is_of_notes (t ∷ []) → false ≡ is_some p.given → read_seen n p o ≡ map_ok (λ model. record p { model = model }) (model.read_tokens p.model o)
          of_model is plain = of_begun (λ o. read_seen n p o ≡ with_model p (model.read_tokens p.model o)) refl
              (λ ts. of_other is ts ∙ ap (λ b. if b then Err line_fault.Syntax else with_model p (model.read_parsed p.model (model_line (t ∷ ts)))) (sym plain))

          -- and no line is one where an ontology gives the model
          pub of_given : false ≡ is_of_notes (t ∷ []) → true ≡ is_some p.given → read_seen n p o ≡ Err line_fault.Syntax
          of_given is given = of_begun (λ o. read_seen n p o ≡ Err line_fault.Syntax) refl
              (λ ts. of_other is ts ∙ ap (λ b. if b then Err line_fault.Syntax else with_model p (model.read_parsed p.model (model_line (t ∷ ts)))) (sym given))

    -- a line that begins with `onprom` is the opening line or in no form
    of_opening : true ≡ is_some (expect (codes "onprom") (t ∷ [])) → read_seen n p o ≡ Err (again (opening o))
    unfolding model_line
    of_opening is = of_begun (λ o. read_seen n p o ≡ Err (again (opening o))) refl (λ ts. by t.shape t.text ts is)
      where
        spelled : (shape : Shape) → not (is_quoted_shape shape) ≡ true → (ts : List Seen) → read_seen n p (Some (record { shape = shape; text = codes "onprom" } ∷ ts)) ≡ Err (again (opening (Some (record { shape = shape; text = codes "onprom" } ∷ ts))))
        spelled Word plain ts = elim (is_end (expect (codes "1") ts)) as (λ b. refused_again (is_some p.given) b ≡ Err (again (opened_again b))) [ true ↦ refl | false ↦ always_syntax (is_some p.given) ]
        spelled Number plain ts = elim (is_end (expect (codes "1") ts)) as (λ b. refused_again (is_some p.given) b ≡ Err (again (opened_again b))) [ true ↦ refl | false ↦ always_syntax (is_some p.given) ]
        spelled Sign plain ts = elim (is_end (expect (codes "1") ts)) as (λ b. refused_again (is_some p.given) b ≡ Err (again (opened_again b))) [ true ↦ refl | false ↦ always_syntax (is_some p.given) ]
        spelled Quoted plain ts = absurd cc

        by : (shape : Shape) (text : List ℕ) (ts : List Seen) → true ≡ is_some (expect (codes "onprom") (record { shape = shape; text = text } ∷ [])) → read_seen n p (Some (record { shape = shape; text = text } ∷ ts)) ≡ Err (again (opening (Some (record { shape = shape; text = text } ∷ ts))))
        by shape text ts h = told (not (is_quoted_shape shape)) (bytes_eq text (codes "onprom")) refl refl h
          where
            told : (a b : Bool) → not (is_quoted_shape shape) ≡ a → bytes_eq text (codes "onprom") ≡ b → true ≡ is_some (where_told (a && b) []) → read_seen n p (Some (record { shape = shape; text = text } ∷ ts)) ≡ Err (again (opening (Some (record { shape = shape; text = text } ∷ ts))))
            told true true e f h = let is : text ≡ codes "onprom" = (bytes_eq-Decides text (codes "onprom")).0 f in
                subst (λ x. read_seen n p (Some (record { shape = shape; text = x } ∷ ts)) ≡ Err (again (opening (Some (record { shape = shape; text = x } ∷ ts))))) (sym is) (spelled shape e ts)
            told true false e f h = absurd cc
            told false b e f h = absurd cc

    pub opening_fault : (r : Result Bool LineFault) → true ≡ is_some (expect (codes "onprom") (t ∷ [])) → IfOk r (λ is. opening o ≡ Ok is) → IfErr r (λ e. e ≢ line_fault.NoMemory → opening o ≡ Err e) → again r ≢ line_fault.NoMemory → read_seen n p o ≡ Err (again r)
    opening_fault (Ok is) front read fault known = of_opening front ∙ ap (λ x. Err (again x)) read
    opening_fault (Err e) front read fault known = of_opening front ∙ ap (λ x. Err (again x)) (fault known)
