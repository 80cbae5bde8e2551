-- A line that is put together from its words, one after another.
use Rattle.std.proofs.Common.{◌≡◌, List, [], ◌∷◌, ◌++◌, refl, sym, ap, ◌∙◌, append_assoc, append-nil}
use Rattle.std.specs.Prelude.{codes}
use Rattle.std.specs.List.{join_with_byte}
use Rattle.nn_base.specs.Paths.{Bytes}
use Rattle.nn_quota.specs.declared.quota.Usage.{Usage}
use Rattle.nn_tree.specs.declared.node.Node.{Node}
use Rattle.nn_script.specs.Spelling.{line_of, spaced, escaped}
use Rattle.nn_script.specs.Listing.{sign_of, attributes, details, node_words, node_line}

join-spaced : (word : Bytes) (words : List Bytes) → join_with_byte 32 (word ∷ words) ≡ word ++ spaced words
join-spaced word [] = sym (append-nil word)
join-spaced word (next ∷ words) = ap (λ rest. word ++ 32 ∷ rest) (join-spaced next words)

spaced-append : (words more : List Bytes) → spaced (words ++ more) ≡ spaced words ++ spaced more
spaced-append [] more = refl
spaced-append (word ∷ words) more = ap (λ rest. 32 ∷ (word ++ rest)) (spaced-append words more) ∙ ap (λ rest. 32 ∷ rest) (sym (append_assoc word (spaced words) (spaced more)))

spaced_words : (words more : List Bytes) (last : Bytes) → spaced (words ++ (more ++ last ∷ [])) ≡ spaced words ++ (spaced more ++ 32 ∷ last)
spaced_words words more last =
    spaced-append words (more ++ last ∷ [])
    ∙ ap (λ rest. spaced words ++ rest) (spaced-append more (last ∷ []) ∙ ap (λ rest. spaced more ++ 32 ∷ rest) (append-nil last))

-- a first word, some words and some more, a last one and the newline
line_words : (first last : Bytes) (words more : List Bytes) → line_of (first ∷ (words ++ (more ++ last ∷ []))) ≡ (first ++ (spaced words ++ (spaced more ++ codes " "))) ++ (last ++ codes "\n")
line_words first last words more =
    ap (λ line. line ++ codes "\n") (join-spaced first (words ++ (more ++ last ∷ [])) ∙ ap (λ rest. first ++ rest) (spaced_words words more last)) ∙ simp append_assoc

-- the line of a node ends with its path
pub node_line_is : (path : Bytes) (node : Node) (usage : Usage) → node_line path node usage ≡ node_words node usage ++ (escaped path ++ codes "\n")
node_line_is path node usage = line_words (sign_of node.kind) (escaped path) (attributes node) (details node.kind usage)
