-- Tables in another order.
use Rattle.std.specs.Prelude.{◌≡◌, ◌<◌, ℕ, List, length, get_or}

-- a table has a place, and the order names it there
abbrev pub AgreeAt : List ℕ → List ℕ → ℕ → Type 0
AgreeAt order places k = (get_or order k 0 < length order) × (get_or places k 0 < length order) × (get_or order (get_or places k 0) 0 ≡ k)

-- so have all of n tables
pub record IsReordering (n : ℕ) (order places : List ℕ) : Type 0 where
  pub many : length order ≡ n
  pub whole : length places ≡ n
  pub each : (k : ℕ) → k < n → AgreeAt order places k
