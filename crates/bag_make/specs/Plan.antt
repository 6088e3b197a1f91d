-- The steps that make a bag (RFC 8493, 2.1).
use Rattle.std.specs.Prelude.{ℕ, Bool, List, [], ◌∷◌, ◌++◌, map, take, if◌then◌else◌}
use Rattle.std.specs.FinMap as fin
use Rattle.bag_text.specs.Bytes.{Name}
use Rattle.bag_text.specs.Path.{first_component}
use Rattle.bag_text.specs.Text.{text_cmp}
use Rattle.bag_text.specs.declared.alg.Alg.{Alg}
use Rattle.bag_tree.specs.Bag.{Bag, files_of, has_folder}
use Rattle.bag_tags.specs.Element.{NewElement}
use Rattle.bag_tree.specs.Steps.{has_within}
use Rattle.bag_tags.specs.Summed.{File}
use Rattle.bag_make.specs.Made.{data_folder, new_tag_files}
use Rattle.bag_make.specs.Steps.{new_folder, after_steps}
use Rattle.bag_make.specs.declared.step.Step.{Step}
use Rattle.bag_make.specs.declared.step.Step.TheVariants.{MakeFolder, MoveIn, Rename, Create}

-- texts in the order of their bytes, each once
abbrev pub in_order : List (List ℕ) → List (List ℕ)
in_order texts =
    fin.keys (fin.from_entries {X = Unit {0}} {R = text_cmp}
    (map {B = List ℕ × Unit {0}} (λ t. (t, tt)) texts))

-- what is moved: the first component of each path, and data where that folder is there, in order
abbrev pub tops : List File → Bool → List Name
tops files has_data =
    in_order (map (λ e. first_component e.0) files ++ (if has_data then data_folder ∷ [] else []))

-- the step that makes a tag file
abbrev pub new_file : File → Step
new_file e = Create e.0 e.1

-- the steps that move these names and make these tag files
abbrev pub steps_for : List (List ℕ) → List File → List Step
steps_for names tag_files = MakeFolder ∷ map MoveIn names ++ Rename ∷ map new_file tag_files

-- the steps that make a bag of these files, in order
abbrev pub steps_of : List File → Bool → List Alg → List NewElement → List Step
steps_of files has_data algs info = steps_for (tops files has_data) (new_tag_files files algs info)

abbrev pub steps : Bag → List Alg → List NewElement → List Step
steps bag algs info = steps_of (files_of bag) (has_folder bag data_folder) algs info

-- the bag after the first k steps
abbrev pub after : ℕ → Bag → List Alg → List NewElement → Bag
after k bag algs info = after_steps (take k (steps bag algs info)) bag

-- a file stands in the way of the folder that is made
abbrev pub is_in_the_way : Bag → Bool
is_in_the_way bag = has_within bag new_folder
