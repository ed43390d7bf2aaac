-- What may be wrong with the text of a template.
use Rattle.std.specs.Prelude.{Bool, Result}
use Rattle.iri_templates.specs.declared.fault.TemplateFault.{TemplateFault}
use Rattle.iri_templates.specs.Templates.{Segments}
use Rattle.mapping_language.specs.declared.mapping_templates.Flaw.{Flaw}
use Rattle.mapping_language.specs.declared.mapping_templates.Flaw.TheVariants.{Bad, Unbounded}
use Rattle.mapping_language.specs.Mappings.{is_bad, is_unbounded}

abbrev pub has_flaw : Flaw → Result Segments TemplateFault → Bool
has_flaw Bad read = is_bad read
has_flaw Unbounded read = is_unbounded read
