-- That exactly the call of a number is refused.
use Rattle.std.specs.Prelude.{◌≡◌, ℕ, ◌<◌, ◌≤◌, ◌+◌, true}
use Rattle.std.specs.Fn.{iterate}
use Rattle.bag_memory.specs.Refusals.{due_at, is_kth, next_due, refused_calls}
use Rattle.bag_memory.specs.declared.calls.Due.{Due}

-- after this number of calls the next one is refused exactly where it is the k-th, and a failure is
-- counted exactly where that one was made
pub record RefusesAt (k calls : ℕ) (due : Due) : Type 0 where
  pub refused : is_kth due ≡ true → k ≡ calls + 1
  pub kth : k ≡ calls + 1 → is_kth due ≡ true
  pub before : calls < k → refused_calls due ≡ 0
  pub after : k ≤ calls → 0 < k → refused_calls due ≡ 1

-- the law: of a tree of which the call of a number is refused no other call is
abbrev pub OneCallIsRefused : Type 0
OneCallIsRefused = (k calls : ℕ) → RefusesAt k calls (iterate next_due calls (due_at k))
