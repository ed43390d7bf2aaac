-- Texts that are put one after another on their way to a sink.
use Rattle.std.proofs.Common.{◌≡◌, ◌<◌, ◌≤◌, ◌+◌, ◌-◌, ◌∙◌, sym, ap, refl, ℕ, Bool, List, [], ◌∷◌, ◌++◌, length, take, drop, get_or, Option, Some, None, Result, Ok, Err, OnOk, OnErr, IsTrue, append_assoc, append-nil, codes, length-append, arith}
use Rattle.std.proofs.lemmas.List.{take-append-le, take-take}
use Rattle.std.proofs.lemmas.Result.{on_ok_weaker, on_err_weaker}
use Rattle.std.proofs.Math.Seq.{take-add, take-append-add}
use Rattle.std.specs.Io.KnownBytes.{Appends}
use Rattle.std.proofs.lemmas.Grind.{flat_map-append}
use Rattle.outside.specs.declared.sink.Stop.{Stop}
use Rattle.outside.specs.declared.sink.Stop.TheVariants as stop
use Rattle.outside.specs.Counts.{CountsWrite}
use Rattle.outside.specs.Written.{AppendsFront}
use Rattle.xes_writer.specs.Gathered.{Gathered, Puts, Waiting}
use Rattle.xes_writer.specs.Xes.{element_name, entry_text, escaped, escaped_byte}
use Rattle.xes_writer.specs.declared.log.Entry.{Entry}

Appends-then : (old mid new : Option (List ℕ)) (a b : List ℕ) → Appends old mid a → Appends mid new b → Appends old new (a ++ b)
Appends-then None mid new a b p q = tt
Appends-then (Some xs) None new a b p q = absurd p
Appends-then (Some xs) (Some ys) None a b p q = absurd q
Appends-then (Some xs) (Some ys) (Some zs) a b p q = q ∙ ap (λ t. t ++ b) p ∙ append_assoc xs a b

pub Appends-none : (old : Option (List ℕ)) → Appends old old []
Appends-none None = tt
Appends-none (Some xs) = sym (append-nil xs)

-- a front of a text is one of a longer text
front_more : (old new : Option (List ℕ)) (xs ys : List ℕ) → AppendsFront old new xs → AppendsFront old new (xs ++ ys)
front_more old new xs ys f =
    let within : f.0 ≤ length xs = f.1 in
    (f.0, omega (arith, length-append xs ys), rw (take-append-le f.0 xs ys within) f.2)

-- a front behind a text
front_behind : (old mid new : Option (List ℕ)) (xs ys : List ℕ) → Appends old mid xs → AppendsFront mid new ys → AppendsFront old new (xs ++ ys)
front_behind old mid new xs ys p f =
    let within : f.0 ≤ length ys = f.1 in
    (length xs + f.0, omega (arith, length-append xs ys), rw (take-append-add xs ys f.0) (Appends-then old mid new xs (take f.0 ys) p f.2))

all_of : (front bytes text : List ℕ) → bytes ≡ [] → front ++ bytes ≡ text → front ≡ text
all_of front bytes text none is = sym (append-nil front) ∙ ap (λ b. front ++ b) (sym none) ∙ is

-- what all of this leaves
pub record AtEnd {S : Type 0} (written : S → Option (List ℕ)) (wants failed : S → Bool) (faults : S → ℕ) (start now : S) (r : Result (Unit {0}) Stop) (text : List ℕ) : Type 0 where
  pub ok : OnOk r (Appends (written start) (written now) text)
  pub err : OnErr r (AppendsFront (written start) (written now) text)
  pub memory : r ≡ Err stop.NoMemory → IsTrue (wants start)
  pub last : r ≡ Err stop.Failed → IsTrue (failed now)
  pub wants_same : wants now ≡ wants start
  pub counts : CountsWrite (faults start) (faults now) r

module _ {S : Type 0} {written : S → Option (List ℕ)} {wants failed : S → Bool} {faults : S → ℕ} where
  -- before anything is put
  pub at_start : (start : S) (w : Waiting) → w.done ≡ Ok tt → w.bytes ≡ [] → Gathered written wants failed faults start start w []
  at_start start w is_ok none = record {
    ok = rw is_ok ([], Appends-none (written start), none);
    err = rw is_ok tt;
    memory = λ e. cc;
    last = λ e. cc;
    wants_same = refl;
    counts = record { faults_later = omega arith; failed = λ e. cc; no_fault = λ e. refl };
  }

  pub puts_none : (s : S) (w : Waiting) → Puts written wants failed faults s w s w []
  puts_none s w = record { behind = λ start before g. rw (append-nil before) g }

  pub puts_then : {s0 s1 s2 : S} {w0 w1 w2 : Waiting} {xs ys : List ℕ} → Puts written wants failed faults s0 w0 s1 w1 xs → Puts written wants failed faults s1 w1 s2 w2 ys → Puts written wants failed faults s0 w0 s2 w2 (xs ++ ys)
  puts_then {xs = xs} {ys = ys} p q = record { behind = λ start before g. rw (← append_assoc before xs ys) (q.behind start (before ++ xs) (p.behind start before g)) }

  pub puts_same : {s0 s1 : S} {w0 w1 : Waiting} {xs : List ℕ} (ys : List ℕ) → xs ≡ ys → Puts written wants failed faults s0 w0 s1 w1 xs → Puts written wants failed faults s0 w0 s1 w1 ys
  puts_same ys e p = rw (← e) p

  -- more bytes wait
  pub puts_held : (s : S) (w w' : Waiting) (xs : List ℕ) → w'.done ≡ w.done → w'.bytes ≡ w.bytes ++ xs → Puts written wants failed faults s w s w' xs
  puts_held s w w' xs same more = record {
    behind = λ start before g. record {
      ok = rw (same, more) (on_ok_weaker w.done (λ f. (f.0, f.1, sym (append_assoc f.0 w.bytes xs) ∙ ap (λ t. t ++ xs) f.2)) g.ok);
      err = rw same (on_err_weaker w.done (λ f. front_more (written start) (written s) before xs f) g.err);
      memory = rw same g.memory;
      last = rw same g.last;
      wants_same = g.wants_same;
      counts = rw same g.counts;
    };
  }

  -- what waits is lost where writing has stopped
  pub puts_stopped : (s : S) (w w' : Waiting) (why : Stop) → w.done ≡ Err why → w'.done ≡ w.done → Puts written wants failed faults s w s w' []
  puts_stopped s w w' why stopped same = record {
    behind = λ start before g. rw (append-nil before) (record {
      ok = rw (same, stopped) tt;
      err = rw same g.err;
      memory = rw same g.memory;
      last = rw same g.last;
      wants_same = g.wants_same;
      counts = rw same g.counts;
    });
  }

  -- what waits is written
  pub puts_flushed : (old new : S) (w w' : Waiting) (r : Result (Unit {0}) Stop) → w.done ≡ Ok tt → w'.done ≡ r → w'.bytes ≡ []
      → OnOk r (Appends (written old) (written new) w.bytes) → OnErr r (AppendsFront (written old) (written new) w.bytes)
      → (r ≡ Err stop.NoMemory → IsTrue (wants old)) → (r ≡ Err stop.Failed → IsTrue (failed new)) → wants new ≡ wants old → CountsWrite (faults old) (faults new) r
      → Puts written wants failed faults old w new w' []
  puts_flushed old new w w' r is_ok is none ok err memory last wants_same counts = record {
    behind = λ start before g.
        let sent = rw is_ok at g.ok in
        let level : faults old ≡ faults start = g.counts.no_fault (λ e. cc) in
        let still : wants old ≡ wants start = g.wants_same in
        rw (append-nil before) (record {
          ok = rw (is, none) (on_ok_weaker r (λ more. (before, rw (← sent.2) (Appends-then (written start) (written old) (written new) sent.0 w.bytes sent.1 more), append-nil before)) ok);
          err = rw is (on_err_weaker r (λ more. rw (← sent.2) (front_behind (written start) (written old) (written new) sent.0 w.bytes sent.1 more)) err);
          memory = rw is (λ e. rw (← still) (memory e));
          last = rw is last;
          wants_same = wants_same ∙ still;
          counts = rw (is, ← level) counts;
        });
  }

  -- a front of a text, nothing, and a piece of the rest
  pub puts_piece : {s0 s1 s2 s3 : S} {w0 w1 w2 w3 : Waiting} (text : List ℕ) (at n : ℕ) → Puts written wants failed faults s0 w0 s1 w1 (take at text) → Puts written wants failed faults s1 w1 s2 w2 [] → Puts written wants failed faults s2 w2 s3 w3 (take n (take (length text - at) (drop at text)))
      → at + n ≤ length text → Puts written wants failed faults s0 w0 s3 w3 (take (at + n) text)
  puts_piece text at n p q r within =
      let inner : n ≤ length text - at = omega arith in
      rw (take-add at n text) (puts_then p (puts_then q (rw (take-take n (length text - at) (drop at text) inner) at r)))

  -- the same of escaped texts
  pub puts_escaped : {s0 s1 s2 : S} {w0 w1 w2 : Waiting} (text : List ℕ) (at n : ℕ) → Puts written wants failed faults s0 w0 s1 w1 (escaped (take at text)) → Puts written wants failed faults s1 w1 s2 w2 (escaped (take n (take (length text - at) (drop at text))))
      → at + n ≤ length text → Puts written wants failed faults s0 w0 s2 w2 (escaped (take (at + n) text))
  unfolding escaped
  puts_escaped text at n p q within =
      let inner : n ≤ length text - at = omega arith in
      rw (take-add at n text, flat_map-append escaped_byte (take at text) (take n (drop at text)))
      (puts_then p (rw (take-take n (length text - at) (drop at text) inner) at q))

  pub at_end : (start now : S) (w : Waiting) (r : Result (Unit {0}) Stop) (text : List ℕ) → r ≡ w.done → w.bytes ≡ [] → Gathered written wants failed faults start now w (text ++ []) → AtEnd written wants failed faults start now r text
  at_end start now w r text is none g =
      let h = rw (append-nil text) at g in
      record {
        ok = rw is (on_ok_weaker w.done (λ f. rw (← all_of f.0 w.bytes text none f.2) f.1) h.ok);
        err = rw is h.err;
        memory = rw is h.memory;
        last = rw is h.last;
        wants_same = h.wants_same;
        counts = rw is h.counts;
      }

-- an attribute in six parts
pub entry_parts : (indent front : List ℕ) (e : Entry (List ℕ)) → front ≡ codes "<" ++ element_name e.side ++ codes " key=\""
    → indent ++ front ++ escaped e.key ++ codes "\" value=\"" ++ escaped e.value ++ codes "\"/>\n" ≡ entry_text indent e
unfolding entry_text
entry_parts indent front e is = rw is (
    ap (λ t. t ++ escaped e.key ++ codes "\" value=\"" ++ escaped e.value ++ codes "\"/>\n") (
    sym (append_assoc indent (codes "<" ++ element_name e.side) (codes " key=\"")) ∙ ap (λ t. t ++ codes " key=\"") (sym (append_assoc indent (codes "<") (element_name e.side)))))

-- the first byte of a text, escaped
pub first_escaped : (text : List ℕ) → 0 < length text → escaped (take 1 text) ≡ escaped_byte (get_or text 0 0)
unfolding escaped
first_escaped [] h = absurd (omega (arith, h))
first_escaped (b ∷ bs) h = append-nil (escaped_byte b)
