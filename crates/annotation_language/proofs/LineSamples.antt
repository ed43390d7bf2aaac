-- What some annotation lines say, computed.
use Rattle.std.proofs.Common.{◌≡◌, refl, ℕ, List, [], ◌∷◌, ◌++◌, Option, Some, None, Result, Ok, Err, codes, map, if◌then◌else◌, true, false}
use Rattle.std.specs.Str.{bytes_eq, chars}
use Rattle.line_lexer.specs.Tokens.{tokens_behind, token_front}
use Rattle.line_lexer.specs.declared.fault.LineFault.{LineFault}
use Rattle.line_lexer.specs.declared.fault.LineFault.TheVariants.{Syntax, Unknown, Double, TypeMismatch, BadTemplate, MixedSort, HeadUnbound, BadKey, Limit}
use Rattle.line_lexer.specs.declared.fault.Counted.TheVariants as counted
use Rattle.civil_values.specs.TimeReader.{moment_of}
use Rattle.vocabulary.specs.declared.ids.ClassId.{ClassId}
use Rattle.vocabulary.specs.declared.ids.LinkId.{LinkId}
use Rattle.vocabulary.specs.declared.ids.Side.{Side}
use Rattle.vocabulary.specs.declared.ids.Side.TheVariants.{Object, Value}
use Rattle.vocabulary.specs.declared.ids.ValueKind.TheVariants.{Text, Time}
use Rattle.vocabulary.specs.declared.term.Term.{Named, Value as ValueTerm}
use Rattle.iri_templates.specs.Templates.{template_of}
use Rattle.queries.specs.declared.query.Arg.{Arg}
use Rattle.queries.specs.declared.query.Arg.TheVariants.{Blank, Var, Fixed}
use Rattle.queries.specs.declared.query.Atom.TheVariants.{InClass, Linked}
use Rattle.queries.specs.declared.query.Query.{Query}
use Rattle.annotation_language.specs.declared.notes.Rule.TheVariants.{Mandatory, Many}
use Rattle.annotation_language.specs.declared.notes.KeySource.TheVariants.{Fixed as FixedKey, Asked}
use Rattle.annotation_language.specs.declared.notes.KeyNote.{KeyNote}
use Rattle.annotation_language.specs.declared.notes.EventNote.{EventNote}
use Rattle.line_lexer.specs.Separated.{at_most}
use Rattle.annotation_language.specs.Grammar.{atom, of_one, pair, of_two, of_any, key_front, key_line, annotation_line}
use Rattle.line_lexer.specs.Judging.{first_broken}
use Rattle.annotation_language.specs.Lines.{Noted, nothing, is_bad_key, read_annotation_line, broken, grown}

-- the model: a class Paper, an association writes, an attribute title of texts and one made of times
abbrev class_of : List ℕ → Option ClassId
class_of text = if bytes_eq text (codes "Paper") then Some (record { 0 = 0 }) else None

abbrev link_of : List ℕ → Option (LinkId × Side)
link_of text = if bytes_eq text (codes "writes") then Some (record { 0 = 0 }, Object)
    else (if bytes_eq text (codes "title") then Some (record { 0 = 1 }, Value Text)
    else (if bytes_eq text (codes "made") then Some (record { 0 = 2 }, Value Time) else None))

abbrev var : ℕ → Arg
var n = Var (record { 0 = n })

-- `c where Paper(c)`
abbrev papers : Query
papers = record { head = var 0 ∷ []; atoms = InClass (record { 0 = 0 }) (var 0) ∷ [] }

abbrev event : Option Query → List KeyNote → EventNote
event cases keys = record { name = codes "e"; line = 7; objects = papers; cases = cases; keys = keys }

-- a case query, an event `e` with a key `k`, and a named query `q`
abbrev before : Noted
before = record {
  notes = record {
    case_query = Some papers;
    case_name = None;
    events = event None (record { key = codes "k"; rule = Many; source = FixedKey Text (codes "x") } ∷ []) ∷ [];
    queries = record { name = codes "q"; query = papers } ∷ [];
  };
  variables = record { name = codes "q"; variables = codes "c" ∷ [] } ∷ [];
}

abbrev says : Noted → List ℕ → Result Noted LineFault
says s line = read_annotation_line class_of link_of 9 s line

-- one line of each kind
a_case : says nothing (codes "case c where Paper(c)") ≡ Ok (record { notes = record nothing.notes { case_query = Some papers }; variables = record { name = codes "case"; variables = codes "c" ∷ [] } ∷ [] })
unfolding chars tokens_behind token_front at_most atom of_one annotation_line template_of broken grown
a_case = refl

a_case_name : says before (codes "casename (c, n) where title(c, n)") ≡ Ok (record before {
  notes = record before.notes {
    case_name = Some (record { head = var 0 ∷ var 1 ∷ []; atoms = Linked (record { 0 = 1 }) (var 0) (var 1) ∷ [] });
  };
})
unfolding chars tokens_behind token_front at_most atom pair of_two annotation_line template_of broken grown
a_case_name = refl

an_event : says before (codes "event f x where Paper(x)") ≡ Ok (record {
  notes = record before.notes { events = before.notes.events ++ record { name = codes "f"; line = 9; objects = papers; cases = None; keys = [] } ∷ [] };
  variables = before.variables ++ record { name = codes "f"; variables = codes "x" ∷ [] } ∷ [];
})
unfolding chars tokens_behind token_front at_most atom of_one annotation_line template_of broken grown
an_event = refl

cases_of_it : says before (codes "cases e (x, x) where Paper(x)") ≡ Ok (record before {
  notes = record before.notes {
    events = record (event None (record { key = codes "k"; rule = Many; source = FixedKey Text (codes "x") } ∷ [])) { cases = Some (record papers { head = var 0 ∷ var 0 ∷ [] }) } ∷ [];
  };
})
unfolding chars tokens_behind token_front at_most atom pair of_two annotation_line template_of broken grown
cases_of_it = refl

abbrev with_key : KeyNote → Result Noted LineFault
with_key key = Ok (record before {
  notes = record before.notes {
    events = event None (record { key = codes "k"; rule = Many; source = FixedKey Text (codes "x") } ∷ key ∷ []) ∷ [];
  };
})

-- a key with a constant value, in canonical text, and one with a query
keys_of_it : map (says before) (codes "set e \"time:timestamp\" mandatory is time \"2024-01-02\"" ∷ codes "set e \"made\" many (x, t) where made(x, t)" ∷ [])
    ≡ with_key (record { key = codes "time:timestamp"; rule = Mandatory; source = FixedKey Time (codes "2024-01-02T00:00:00.000+00:00") })
    ∷ with_key (record { key = codes "made"; rule = Many; source = Asked (record { head = var 0 ∷ var 1 ∷ []; atoms = Linked (record { 0 = 2 }) (var 0) (var 1) ∷ [] }) (Value Time) }) ∷ []
unfolding chars tokens_behind token_front at_most atom pair of_two key_front key_line annotation_line template_of moment_of broken grown
keys_of_it = refl

-- the head before the atoms; `_` is a variable of its own, and constants are terms
a_query : map (says before) (codes "query r (b, a) where writes(a, b), title(b, \"x\"), writes(iri \"e:p/1\", _)" ∷ codes "query r () where Paper(_)" ∷ [])
    ≡ Ok (record {
      notes = record before.notes {
        queries = before.notes.queries ++ record {
          name = codes "r";
          query = record {
            head = var 0 ∷ var 1 ∷ [];
            atoms = Linked (record { 0 = 0 }) (var 1) (var 0) ∷ Linked (record { 0 = 1 }) (var 0) (Fixed (ValueTerm Text (codes "x"))) ∷ Linked (record { 0 = 0 }) (Fixed (Named (codes "e:p/1"))) Blank ∷ [];
          };
        } ∷ [];
      };
      variables = before.variables ++ record { name = codes "r"; variables = codes "b" ∷ codes "a" ∷ [] } ∷ [];
    })
    ∷ Ok (record {
      notes = record before.notes { queries = before.notes.queries ++ record { name = codes "r"; query = record { head = []; atoms = InClass (record { 0 = 0 }) Blank ∷ [] } } ∷ [] };
      variables = before.variables ++ record { name = codes "r"; variables = [] } ∷ [];
    }) ∷ []
unfolding chars tokens_behind token_front at_most atom of_any annotation_line template_of broken grown
a_query = refl

abbrev fault_of : Result Noted LineFault → Option LineFault
fault_of (Ok s) = None
fault_of (Err fault) = Some fault

abbrev faults : List (List ℕ) → List (Option LineFault)
faults lines = map (λ line. fault_of (says before line)) lines

-- Syntax, then Unknown
forms : faults (codes "case (c) where Paper(c)" ∷ codes "casename (c) where Paper(c)" ∷ codes "event e _ where Paper(_)" ∷ codes "set e \"k\" some (x, y) where made(x, y)" ∷ codes "query r (a) where Paper(a, a, a)" ∷ codes "query r (a) where Paper(a) Paper(a)" ∷ codes "class A" ∷ codes "# nothing" ∷ [])
    ≡ Some Syntax ∷ Some Syntax ∷ Some Syntax ∷ Some Syntax ∷ Some Syntax ∷ Some Syntax ∷ Some Syntax ∷ None ∷ []
unfolding chars tokens_behind token_front at_most atom of_one pair of_two of_any key_front key_line annotation_line template_of broken grown
forms = refl

unknown_names : faults (codes "cases q (x, x) where Paper(x)" ∷ codes "set f \"k\" many is text \"\"" ∷ codes "query q (a) where Zed(a)" ∷ [])
    ≡ Some Unknown ∷ Some Unknown ∷ Some Unknown ∷ []
unfolding chars tokens_behind token_front at_most atom pair of_two of_any key_front key_line annotation_line template_of broken grown
unknown_names = refl

no_case_yet : fault_of (says nothing (codes "casename (c, n) where title(c, n)")) ≡ Some Unknown
unfolding chars tokens_behind token_front at_most atom pair of_two annotation_line template_of broken grown
no_case_yet = refl

-- Double, then TypeMismatch and BadTemplate
twice : faults (codes "case c where Paper(\"x\")" ∷ codes "event q x where Paper(x)" ∷ codes "event case x where Paper(x)" ∷ codes "query e (x) where Paper(x)" ∷ codes "set e \"k\" many is time \"x\"" ∷ [])
    ≡ Some Double ∷ Some Double ∷ Some Double ∷ Some Double ∷ Some Double ∷ []
unfolding chars tokens_behind token_front at_most atom of_one of_any key_front key_line annotation_line template_of broken grown
twice = refl

mismatches : faults (codes "query r () where Paper(_, _)" ∷ codes "query r () where writes(_)" ∷ codes "query r () where Paper(\"x\"), Paper(iri \"e:{x}\")" ∷ codes "query r () where made(_, \"x\")" ∷ codes "query r () where title(_, iri \"e:p\")" ∷ codes "set e \"\" many is time \"x\"" ∷
    codes "query r (a) where title(a, b), writes(b, iri \"e:{x}\")" ∷ codes "query r () where Paper(iri \"\")" ∷ [])
    ≡ Some TypeMismatch ∷ Some TypeMismatch ∷ Some TypeMismatch ∷ Some TypeMismatch ∷ Some TypeMismatch ∷ Some TypeMismatch ∷ Some BadTemplate ∷ Some BadTemplate ∷ []
unfolding chars tokens_behind token_front at_most atom of_any key_front key_line annotation_line template_of moment_of broken grown
mismatches = refl

-- MixedSort, then HeadUnbound and BadKey
sorts : faults (codes "query r (z) where title(a, b), writes(b, a)" ∷ codes "event f t where made(_, t)" ∷ codes "cases e (x, t) where made(x, t)" ∷ codes "set e \"m\" many (t, x) where made(x, t)" ∷
    codes "query r (z) where Paper(a)" ∷ codes "set e \"\" many (x, z) where Paper(x)" ∷
    codes "set e \"\" many (x, x) where Paper(x)" ∷ codes "casename (x, t) where made(x, t)" ∷ codes "set e \"org:resource\" many (x, t) where made(x, t)" ∷ [])
    ≡ Some MixedSort ∷ Some MixedSort ∷ Some MixedSort ∷ Some MixedSort ∷ Some HeadUnbound ∷ Some HeadUnbound ∷ Some BadKey ∷ Some BadKey ∷ Some BadKey ∷ []
unfolding chars tokens_behind token_front at_most atom of_one pair of_two of_any key_front key_line annotation_line template_of broken grown
sorts = refl

-- the keys that logs cannot have
bad_keys : map (λ key. is_bad_key key Mandatory (Value Time)) (codes "" ∷ codes "object" ∷ codes "a#1" ∷ codes "time:timestamp" ∷ codes "concept:name" ∷ codes "lifecycle:transition" ∷ codes "made" ∷ [])
    ++ map (λ key. is_bad_key key Many Object) (codes "time:timestamp" ∷ codes "concept:name" ∷ codes "org:resource" ∷ [])
    ++ is_bad_key (codes "time:timestamp") Many (Value Time) ∷ is_bad_key (codes "concept:name") Mandatory (Value Text) ∷ []
    ≡ true ∷ true ∷ true ∷ false ∷ true ∷ true ∷ false ∷ true ∷ true ∷ false ∷ true ∷ false ∷ []
unfolding chars
bad_keys = refl

-- the numbers that counts may reach and not pass, and their order where a line passes several; blanks do not count
limits : map (first_broken []) (
    ((counted.Atoms, 16) ∷ (counted.Variables, 16) ∷ (counted.Variables, 16) ∷ (counted.Events, 64) ∷ []) ∷
    ((counted.Atoms, 17) ∷ (counted.Variables, 17) ∷ (counted.Variables, 17) ∷ (counted.Events, 65) ∷ []) ∷
    ((counted.Atoms, 16) ∷ (counted.Variables, 17) ∷ (counted.Variables, 0) ∷ (counted.Queries, 257) ∷ []) ∷
    ((counted.Events, 65) ∷ []) ∷ ((counted.EventKeys, 65) ∷ []) ∷ ((counted.Queries, 257) ∷ []) ∷ ((counted.Queries, 256) ∷ []) ∷ [])
    ≡ None ∷ Some (Limit counted.Atoms) ∷ Some (Limit counted.Variables) ∷ Some (Limit counted.Events) ∷ Some (Limit counted.EventKeys) ∷ Some (Limit counted.Queries) ∷ None ∷ []
limits = refl

long_queries : faults (
    codes "query r (a,a,a,a,a,a,a,a,a,a,a,a,a,a,a,a,a) where Paper(a)" ∷
    codes "query r () where writes(_,_),writes(_,_),writes(_,_),writes(_,_),writes(_,_),writes(_,_),writes(_,_),writes(_,_),writes(_,_)" ∷ [])
    ≡ Some (Limit counted.Variables) ∷ None ∷ []
unfolding chars tokens_behind token_front at_most atom of_any annotation_line template_of broken grown
long_queries = refl
