-- Contradictions of a sound project can be written, and what is written is read as them.
use Rattle.std.proofs.Common.{◌≡◌, ◌∙◌, subst, ◌≤◌, ℕ, true, List, length, map, All, Ok, arith}
use Rattle.std.specs.Str.{IsUtf8, is_utf8}
use Rattle.std.proofs.lemmas.Str.{is_utf8-from_IsUtf8}
use Rattle.mapping_facts.proofs.Members.{All-In}
use Rattle.mapping_facts.specs.declared.mapping.Mapping.{Mapping}
use Rattle.source_tables.specs.Tables.{Loaded}
use Rattle.conflict_checker.specs.declared.derivation.Derivation.{Derivation}
use Rattle.derivation_text.specs.Laws.{AcceptedIsWellFormed, AreNumbered}
use Rattle.derivation_text.specs.Reading.{derivations_of}
use Rattle.derivation_text.specs.Writing.{derivations_text}
use Rattle.derivation_text.specs.Spelling.{AreWellFormed}
use Rattle.project_language.specs.declared.project.Project.{Project}
use Rattle.project_language.specs.Sound.{IsSound}
use Rattle.onprom_core.specs.Meaning.{AreContradictions, IsReadBack, mapping_names, spelled, tbox}

module _ (project : Project) (tables : List Loaded) (sound : IsSound project) (few : All (λ t. length t.rows ≤ 1_000_000) tables) where
  numbered : AreNumbered (tbox project) project.sources.mappings tables
  numbered =
      let a = sound.tbox.few_axioms in
      let c = sound.tbox.few_constraints in record {
        axioms = omega arith;
        constraints = omega arith;
        fit = sound.fit;
        rows = λ table stands. (let r : length table.rows ≤ 1_000_000 = All-In (λ t. length t.rows ≤ 1_000_000) tables few stands in omega arith);
      }

  pub well_formed : (ds : List Derivation) → AcceptedIsWellFormed → AreContradictions project tables ds → AreWellFormed (length project.sources.mappings) ds
  well_formed ds law are = λ d stands. law (tbox project) project.sources.mappings tables d numbered (are.accepted d stands) (are.short d stands)

  pub read_back : (ds : List Derivation) (mappings : List Mapping) (text said : List ℕ) → mappings ≡ project.sources.mappings → text ≡ derivations_text (map (λ m. m.name) mappings) ds
      → derivations_of (map (λ m. m.name) mappings) text ≡ Ok ds → said ≡ text → IsUtf8 said → IsReadBack project ds
  read_back ds mappings text said same spells reads seen utf8 =
      let written : text ≡ spelled project ds = rw same at spells in
      let read : derivations_of (mapping_names project) text ≡ Ok ds = rw same at reads in record {
        utf8 = subst (λ t. is_utf8 t ≡ true) (seen ∙ written) (is_utf8-from_IsUtf8 said utf8);
        read = subst (λ t. derivations_of (mapping_names project) t ≡ Ok ds) written read;
      }
