-- The texts of a pool.
use Rattle.std.specs.Prelude.{ℕ, List, map, string_bytes}
use Rattle.std.specs.Rc.{rc_str_bytes}
use Rattle.bag_entries.specs.declared.pool.Pool.{Pool}
use Rattle.bag_entries.specs.declared.pool.Run.{Run}

-- the texts of a run, one after another, each with a byte of zero after it
abbrev pub run_bytes : Run → List ℕ
run_bytes run = string_bytes run.whole

-- the runs of a pool, in their order
abbrev pub pool_runs : Pool → List (List ℕ)
pool_runs pool = map rc_str_bytes pool.wholes.items
