-- What pieces one after another do to known bytes.
use Rattle.std.proofs.Common.{◌≡◌, ◌≤◌, ◌+◌, ◌-◌, ℕ, List, [], ◌++◌, length, take, drop, refl, ap, sym, ◌∙◌, append_assoc, append-nil, Option, Some, None, length-append, arith}
use Rattle.std.proofs.lemmas.List.{take-take, drop-take, take-append-drop}
use Rattle.std.proofs.Math.Seq.{drop-append_seam}
use Rattle.std.specs.Io.KnownBytes.{Appends, Consumes, IsAtEnd}
use Rattle.outside.specs.Files.{IsWhole, TakesAtMost}

-- a second piece after a first
pub Appends-then : (old mid new : Option (List ℕ)) (a b : List ℕ) → Appends old mid a → Appends mid new b → Appends old new (a ++ b)
Appends-then None mid new a b p q = tt
Appends-then (Some xs) None new a b p q = absurd p
Appends-then (Some xs) (Some ys) None a b p q = absurd q
Appends-then (Some xs) (Some ys) (Some zs) a b p q = q ∙ ap (λ t. t ++ b) p ∙ append_assoc xs a b

-- a piece that is taken goes over to what was got
pub IsWhole-Consumes : (got : List ℕ) (left new : Option (List ℕ)) (piece whole : List ℕ) → Consumes left new piece → IsWhole got left whole → IsWhole (got ++ piece) new whole
IsWhole-Consumes got None new piece whole c w = absurd (cc)
IsWhole-Consumes got (Some xs) None piece whole c w = absurd c
IsWhole-Consumes got (Some xs) (Some ys) piece whole c w = rw append_assoc (rw (← c) w)

-- where one more piece is taken, what is left is the whole without what was got and the piece
pub TakesAtMost-Consumes : (most : ℕ) (got : List ℕ) (left new : Option (List ℕ)) (piece whole : List ℕ) → Consumes left new piece → length got + length piece ≤ most → IsWhole got left whole → TakesAtMost most (Some whole) new
TakesAtMost-Consumes most got None new piece whole c fits w = absurd (cc)
TakesAtMost-Consumes most got (Some xs) None piece whole c fits w = absurd c
TakesAtMost-Consumes most got (Some xs) (Some ys) piece whole c fits w =
    let all : got ++ xs ≡ whole = cc in
    let moved : (got ++ piece) ++ ys ≡ whole = rw append_assoc (rw (← c) all) in
    let within : length (got ++ piece) ≤ most = rw length-append fits in
    (length (got ++ piece), within, rw (← moved) (ap Some (sym (drop-append_seam (got ++ piece) ys))))

-- all is got where nothing is left
pub IsWhole-at-end : (got : List ℕ) (left : Option (List ℕ)) (whole : List ℕ) → IsAtEnd left → IsWhole got left whole → got ≡ whole
IsWhole-at-end got None whole e w = absurd (cc)
IsWhole-at-end got (Some xs) whole e w =
    let all : got ++ xs ≡ whole = cc in
    let none : xs ≡ [] = e in
    let same : got ++ [] ≡ got = append-nil got in
    sym same ∙ ap (λ t. got ++ t) (sym none) ∙ all

-- before anything is read, all is left
pub IsWhole-start : (left : Option (List ℕ)) (whole : List ℕ) → left ≡ Some whole → IsWhole [] left whole
IsWhole-start left whole e = rw e refl

-- a front, and the piece after it
pub take-add : (done n : ℕ) (bytes : List ℕ) → take (done + n) bytes ≡ take done bytes ++ take n (drop done bytes)
take-add done n bytes =
    let short : done ≤ done + n = omega arith in
    let front : take done (take (done + n) bytes) ≡ take done bytes = take-take done (done + n) bytes short in
    let back : drop done (take (done + n) bytes) ≡ take n (drop done bytes) = drop-take done n bytes in
    let whole : take done (take (done + n) bytes) ++ drop done (take (done + n) bytes) ≡ take (done + n) bytes = take-append-drop done (take (done + n) bytes) in
    cc

-- a piece of the rest after a front
pub appends_more : (old mid new : Option (List ℕ)) (bytes : List ℕ) (done n : ℕ) → done + n ≤ length bytes → Appends old mid (take done bytes) → Appends mid new (take n (take (length bytes - done) (drop done bytes))) → Appends old new (take (done + n) bytes)
appends_more old mid new bytes done n fits p q =
    let inner : n ≤ length bytes - done = omega arith in
    let same : take n (take (length bytes - done) (drop done bytes)) ≡ take n (drop done bytes) = take-take n (length bytes - done) (drop done bytes) inner in
    rw take-add (Appends-then old mid new (take done bytes) (take n (drop done bytes)) p (rw same at q))
