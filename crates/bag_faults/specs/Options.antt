-- How much of a bag is checked, and which tag files are read.
use Rattle.std.specs.Prelude.{ℕ, ◌≡◌, ◌≢◌, ◌⊎◌, ◌==◌, ◌||◌, Bool, nat_le}
use Rattle.bag_read.specs.declared.tag_name.TagName.{TagName}
use Rattle.bag_read.specs.declared.tag_name.TagName.TheVariants as tag_of
use Rattle.bag_faults.specs.declared.options.Depth.{Depth}
use Rattle.bag_faults.specs.declared.options.Depth.TheVariants.{Declaration, Fast, Complete, Full}
use Rattle.bag_faults.specs.declared.options.Options.{Options}

-- Whether a depth looks at a stage: each up to its last, and at every depth but Declaration the
-- eighth, which needs a profile.
abbrev pub reaches : Depth → ℕ → Bool
reaches Declaration k = nat_le k 1
reaches Fast k = nat_le k 3 || k == 8
reaches Complete k = nat_le k 6 || k == 8
reaches Full k = nat_le k 8

-- the options ask for a tag file: always for the declaration, and above the depth of the
-- declaration for each
abbrev pub Wants : Options → TagName → Type 0
Wants options name = (name ≡ tag_of.Declaration) ⊎ (options.depth ≢ Declaration)
