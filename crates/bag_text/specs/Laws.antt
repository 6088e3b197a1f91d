-- Laws about algorithms, lines, paths and spellings.
use Rattle.std.specs.Prelude.{ℕ, ◌≡◌, List, [], ◌∷◌, Some, Contains, ◌≢◌, ◌⊎◌, ◌↔◌, ◌++◌, All}
use Rattle.std.specs.Prelude.{IsTrue}
use Rattle.std.specs.List.Sorted.{IsStrictlySortedBy}
use Rattle.bag_text.specs.Bytes.{Line, Path}
use Rattle.bag_text.specs.declared.alg.Alg.{Alg}
use Rattle.std.specs.List.{join_with_byte}
use Rattle.bag_text.specs.Lines.{line_feed, carriage_return, lines}
use Rattle.bag_text.specs.declared.rules.Rules.{Rules}
use Rattle.bag_text.specs.declared.rules.Rules.TheVariants.{V10}
use Rattle.bag_text.specs.Spells.{Spells}
use Rattle.bag_text.specs.Escape.{escape}
use Rattle.bag_text.specs.Alg.{algs, name, rank, alg_named, rank_cmp}
use Rattle.bag_text.specs.Path.{slash, is_component, is_path}
use Rattle.bag_text.specs.Spelling.{unescaped}

-- the law: a path that is written is read again
abbrev pub EscapedIsReadAgain : Type 0
EscapedIsReadAgain = (path : Path) → unescaped V10 (escape path) ≡ Some path

-- the law: each spelling spells one path, and what has a bad escape spells none
abbrev pub UnescapedIsSpelled : Type 0
UnescapedIsSpelled = (rules : Rules) (s : List ℕ) (path : Path)
    → Spells rules s path ↔ (unescaped rules s ≡ Some path)

-- the law: a path is its components with a slash between each two
abbrev pub PathsAreJoinedComponents : Type 0
PathsAreJoinedComponents =
    (t : List ℕ) → IsTrue (is_path t) ↔
    ((parts : List (List ℕ)) × (parts ≢ []) × All (λ part. IsTrue (is_component part)) parts
    × All (λ part. All (λ c. c ≢ slash) part) parts × (t ≡ join_with_byte slash parts))

abbrev pub HasNoEnd : Line → Type 0
HasNoEnd line = All (λ c. (c ≢ line_feed) × (c ≢ carriage_return)) line

-- LF, CR or CRLF; a CR alone only where no LF follows
abbrev pub IsEnd : List ℕ → List ℕ → Type 0
IsEnd end rest =
    (end ≡ line_feed ∷ [])
    ⊎ (end ≡ carriage_return ∷ line_feed ∷ [])
    ⊎ ((end ≡ carriage_return ∷ []) × ((more : List ℕ) → rest ≢ line_feed ∷ more))

-- The text is these lines in order, each followed by an end. The last may lack its end where it
-- isn't empty.
abbrev pub Cut : List ℕ → List Line → Type 0
Cut t [] = t ≡ []
Cut t (line ∷ rest) =
    HasNoEnd line
    × (((t ≡ line) × (line ≢ []) × (rest ≡ []))
    ⊎ ((end after : List ℕ) × IsEnd end after × (t ≡ line ++ end ++ after) × Cut after rest))

-- the law: a text is cut into its lines, and into no others
abbrev pub LinesAreTheOnlyCut : Type 0
LinesAreTheOnlyCut = (t : List ℕ) (all : List Line) → Cut t all ↔ (all ≡ lines t)

-- the law: ranks tell algorithms apart
abbrev pub RanksTellApart : Type 0
RanksTellApart = (a b : Alg) → rank a ≡ rank b → a ≡ b

-- the law: names tell algorithms apart
abbrev pub NamesTellApart : Type 0
NamesTellApart = (a b : Alg) → name a ≡ name b → a ≡ b

-- the law: a name names its algorithm
abbrev pub NameIsReadAgain : Type 0
NameIsReadAgain = (alg : Alg) → alg_named (name alg) ≡ Some alg

-- the law: the list ascends by rank, so that none is listed twice
abbrev pub ListAscends : Type 0
ListAscends = IsStrictlySortedBy rank_cmp algs

-- the law: each algorithm is listed
abbrev pub EachIsListed : Type 0
EachIsListed = (alg : Alg) → Contains algs alg
