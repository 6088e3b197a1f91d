-- Which of two sources have been filled.
use Rattle.std.specs.Prelude.{Bool, true, false}
use Rattle.bag_sources.specs.declared.merge.Filled.{Filled}
use Rattle.bag_sources.specs.declared.merge.Filled.TheVariants.{Neither, First, Both}

-- the first alone has, so the second is the next
abbrev pub awaits_second : Filled → Bool
awaits_second Neither = false
awaits_second First = true
awaits_second Both = false

abbrev pub is_both : Filled → Bool
is_both Neither = false
is_both First = false
is_both Both = true
