-- What one read of a record does to the records that are left.
use Rattle.std.proofs.Common.{◌≡◌, ◌∙◌, sym, refl, ap, Bool, true, false, ℕ, List, [], ◌∷◌, Option, Some, None, Bor}
use Rattle.csv.specs.Machine.{Read, next_record}
use Rattle.csv.specs.Reading.{Ready, ReadRecord, ReadsNext, ReadsOn, NextIs, default_config, is_flexible, pending_of, reader_config, reader_state, reader_trim, source_of}
use Rattle.csv.specs.declared.parser.State.{State}
use Rattle.csv.specs.declared.reader.Reader.{Reader}
use Rattle.csv.specs.declared.reader.Trim.TheVariants as trim
use Rattle.source_tables.specs.Reading.{IsBetween, Leaves, TakesRow}
use Rattle.source_tables.proofs.Progress.{left_of, left_next, next_past, Next}

abbrev Bytes : Type 0
Bytes = Bor (List ℕ)

-- how a reader goes on after a record
record Goes (b : Reader Bytes) (ys : List ℕ) : Type 0 where
  ready : Ready b
  trim : reader_trim b ≡ trim.None
  config : reader_config b ≡ default_config
  flexible : is_flexible b ≡ true
  source : source_of (λ x. Some x.now) b ≡ Some ys

none_taken : (rows : List (List (List ℕ))) (found : Bool) (fields : List (List ℕ)) (b : Reader Bytes)
    → rows ≡ [] → found ≡ false → TakesRow rows found fields b
none_taken rows found fields b e f = rw e f

some_taken : (rows : List (List (List ℕ))) (found : Bool) (fields : List (List ℕ)) (b : Reader Bytes) (row : List (List ℕ)) (rest : List (List (List ℕ)))
    → rows ≡ row ∷ rest → found ≡ true → fields ≡ row → Leaves b rest → TakesRow rows found fields b
some_taken rows found fields b row rest e f g l = rw e (f, g, l)

by_next : (o : Option Read) (rows : List (List (List ℕ))) (found : Bool) (fields : List (List ℕ)) (b : Reader Bytes) (ys : List ℕ)
    → rows ≡ left_of o → NextIs o found fields (reader_state b) ys
    → ((r : Read) → o ≡ Some r → IsBetween r.1) → (found ≡ true → Goes b ys)
    → TakesRow rows found fields b
by_next None rows found fields b ys e n between goes = none_taken rows found fields b e n
by_next (Some r) rows found fields b ys e n between goes =
    let g = goes n.0 in
    some_taken rows found fields b r.0 _ e n.0 n.1 (record {
      ready = g.ready;
      trim = g.trim;
      config = g.config;
      flexible = g.flexible;
      between = rw n.2 (between r refl);
      text = ys;
      source = g.source;
      rows_left = rw (n.2, n.3) refl;
    })

-- the bytes after the read are known, as those before were
reads_on_known : (s : State) (text : List ℕ) (after : Option (List ℕ)) (found : Bool) (fields : List (List ℕ)) (s2 : State)
    → ReadsNext default_config s (Some text) after found fields s2
    → (ys : List ℕ) × (after ≡ Some ys) × NextIs (next_record default_config s [] [] text) found fields s2 ys
reads_on_known s text None found fields s2 r = absurd r
reads_on_known s text (Some ys) found fields s2 r = (ys, refl, r)

pub takes : (a b : Reader Bytes) (rows : List (List (List ℕ))) (found : Bool) (fields : List (List ℕ))
    → Leaves a rows → ReadRecord (λ x. Some x.now) a b found fields → (found ≡ true → ReadsOn a b)
    → is_flexible b ≡ is_flexible a → TakesRow rows found fields b
takes a b rows found fields l r on same =
    let k = reads_on_known (reader_state a) l.text (pending_of (Some b.rdr.now) b) found fields (reader_state b) (rw (l.config, l.source) at r.0) in
    by_next (next_record default_config (reader_state a) [] [] l.text) rows found fields b k.0
    (l.rows_left ∙ left_next (reader_state a) l.text l.between)
    k.2
    (λ p e. let n : Next l.text p = next_past (reader_state a) l.text p l.between e in n.between)
    (λ f. let g = on f in record {
      ready = (g.4 l.ready).0;
      trim = g.1 ∙ l.trim;
      config = g.0 ∙ l.config;
      flexible = same ∙ l.flexible;
      source = rw r.1 k.1;
    })

pub ends_here : (rows : List (List (List ℕ))) (found : Bool) (fields : List (List ℕ)) (b : Reader Bytes)
    → found ≡ false → TakesRow rows found fields b → rows ≡ []
ends_here [] found fields b e t = refl
ends_here (row ∷ rows) found fields b e t = let f : found ≡ true = t.0 in cc

pub took_first : (rows : List (List (List ℕ))) (found : Bool) (fields : List (List ℕ)) (b : Reader Bytes)
    → found ≡ true → TakesRow rows found fields b
    → (rest : List (List (List ℕ))) × (rows ≡ fields ∷ rest) × Leaves b rest
took_first [] found fields b e t = let f : found ≡ false = t in cc
took_first (row ∷ rows) found fields b e t = (rows, ap (λ x. x ∷ rows) (sym t.1), t.2)
