-- The lines that the code holds, with their names as bytes.
use Rattle.std.specs.Prelude.{map}
use Rattle.annotation_language.specs.declared.written.Argument.{Argument}
use Rattle.annotation_language.specs.declared.written.Argument.TheVariants as argument
use Rattle.annotation_language.specs.declared.written.WrittenAtom.{WrittenAtom}
use Rattle.annotation_language.specs.declared.written.WrittenAtom.TheVariants as atom
use Rattle.annotation_language.specs.declared.written.Asked.{Asked}
use Rattle.annotation_language.specs.declared.written.Source.{Source}
use Rattle.annotation_language.specs.declared.written.Source.TheVariants as source
use Rattle.annotation_language.specs.declared.written.AnnotationLine.{AnnotationLine}
use Rattle.annotation_language.specs.declared.written.AnnotationLine.TheVariants as line
use Rattle.annotation_language.specs.Written as written

abbrev pub shown_argument : Argument → written.Argument
shown_argument argument.Blank = written.Blank
shown_argument (argument.Variable v) = written.Variable v.now
shown_argument (argument.Constant text) = written.Constant text.now
shown_argument (argument.Iri text) = written.Iri text.now

abbrev pub shown_atom : WrittenAtom → written.Atom
shown_atom (atom.One p a) = written.One p.now (shown_argument a)
shown_atom (atom.Two p a b) = written.Two p.now (shown_argument a) (shown_argument b)

abbrev pub shown_query : Asked → written.Asked
shown_query q = record { head = map (λ v. v.now) q.head.items; atoms = map shown_atom q.atoms.items }

abbrev pub shown_source : Source → written.Source
shown_source (source.Answers q) = written.Answers (shown_query q)
shown_source (source.Is k text) = written.Is k text.now

abbrev pub shown : AnnotationLine → written.Line
shown (line.Case q) = written.Case (shown_query q)
shown (line.CaseName q) = written.CaseName (shown_query q)
shown (line.Event e q) = written.Event e.now (shown_query q)
shown (line.Cases e q) = written.Cases e.now (shown_query q)
shown (line.Key e key rule source) = written.Key e.now key.now rule (shown_source source)
shown (line.Query n q) = written.Query n.now (shown_query q)
