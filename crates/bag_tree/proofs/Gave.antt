-- What files gave, as reads of the last one go on.
use Rattle.bag_tree.proofs.Common.{◌≡◌, ◌∙◌, ◌++◌, ◌∷◌, [], List, ap, refl, map, append-nil}
use Rattle.bag_text.specs.Bytes.{Content, Path}
use Rattle.bag_tree.specs.FileReads.{gave_more}

-- the bytes come after those of the last file
pub gave_more-last : (front : List (Path × Content)) (path : Path) (content bytes : Content)
    → gave_more (front ++ (path, content) ∷ []) bytes ≡ front ++ (path, content ++ bytes) ∷ []
gave_more-last [] path content bytes = refl
gave_more-last (file ∷ []) path content bytes = refl
gave_more-last (file ∷ (next ∷ front)) path content bytes =
    ap (λ files. file ∷ files) (gave_more-last (next ∷ front) path content bytes)

-- a read of some bytes
pub gave_on : (gave front : List (Path × Content)) (path : Path) (content bytes : Content)
    → gave ≡ front ++ (path, content) ∷ []
    → gave_more gave bytes ≡ front ++ (path, content ++ bytes) ∷ []
gave_on gave front path content bytes is =
    ap (λ files. gave_more files bytes) is ∙ gave_more-last front path content bytes

-- a read of nothing
pub gave_all : (gave front : List (Path × Content)) (path : Path) (content : Content)
    → gave ≡ front ++ (path, content) ∷ [] → gave_more gave [] ≡ front ++ (path, content) ∷ []
gave_all gave front path content is =
    gave_on gave front path content [] is
    ∙ ap (λ bytes. front ++ (path, bytes) ∷ []) (append-nil content)

-- reads open no file
pub gave_more-paths : (gave : List (Path × Content)) (bytes : Content)
    → map (λ file. file.0) (gave_more gave bytes) ≡ map (λ file. file.0) gave
gave_more-paths [] bytes = refl
gave_more-paths (file ∷ []) bytes = refl
gave_more-paths (file ∷ (next ∷ later)) bytes =
    ap (λ paths. file.0 ∷ paths) (gave_more-paths (next ∷ later) bytes)
