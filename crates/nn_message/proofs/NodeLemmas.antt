-- A node that is spelled is read again, and nothing else is read as one.
use Rattle.std.proofs.Common.{◌≡◌, ◌⊎◌, ℕ, ◌^◌, ◌<◌, Bool, true, false, cond, ◌||◌, eqb, [], ◌∷◌, ◌++◌, length, Some, None, refl, sym, ap, subst, ◌∙◌, inl, inr, append_assoc, arith}
use Rattle.std.proofs.lemmas.Bool.{eq-eqb, eqb-true, ne_eqb, or_right}
use Rattle.nn_base.specs.Limits.{IsLong}
use Rattle.nn_base.specs.Paths.{Bytes, is_name}
use Rattle.nn_wire.specs.Field.{varint_field, bytes_field}
use Rattle.nn_tree.specs.declared.node.Kind.{Kind}
use Rattle.nn_tree.specs.declared.node.Kind.TheVariants.{File, Dir}
use Rattle.nn_message.specs.Messages.{IsVarintNumber, Inode, IsInode}
use Rattle.nn_message.specs.Spelling.{kind_number, kind_field, inode}
use Rattle.nn_message.specs.Reading.{Reader, Spells, Anywhere, ◌then◌, chosen, only, varint_field_at, bytes_field_at, field_with}
use Rattle.nn_message.specs.MessageReading.{long_at, file_at, directory_at, kind_at, name_at, inode_at}
use Rattle.nn_message.proofs.SpellsLemmas.{Spells-then, Spells-mapped, Spells-only, Spells-same, Spells-chosen}
use Rattle.nn_message.proofs.FieldLemmas.{Spells-varint_field, Spells-bytes_field, Spells-field_with}
use Rattle.nn_message.proofs.MessageLemmas.{Spells-long}
use Rattle.nn_message.proofs.FileLemmas.{AtEnd, Body, AreBody, body_text, IsFileBody, Spells-file}
use Rattle.nn_message.proofs.DirectoryLemmas.{IsDirBody, Spells-directory}

-- ---- a node of either kind

abbrev node_text : Body → Bytes
node_text y = kind_field y.0 y.1

file_field_text : (y : Body) → IsFileBody y → bytes_field 4 (body_text y) ≡ node_text y
unfolding kind_field
file_field_text (File replication is_open blocks, a) is = refl
file_field_text (Dir quota, a) is = absurd (omega arith)

dir_field_text : (y : Body) → IsDirBody y → bytes_field 5 (body_text y) ≡ node_text y
unfolding kind_field
dir_field_text (File replication is_open blocks, a) is = absurd (omega arith)
dir_field_text (Dir quota, a) is = refl

Spells-file_field : Spells (field_with 4 file_at) node_text (λ y. AreBody y × IsFileBody y) Anywhere
Spells-file_field =
    let one = Spells-field_with 4 file_at body_text (λ y. AreBody y × IsFileBody y) AtEnd (omega arith) refl Spells-file in
    Spells-same (field_with 4 file_at) (λ y. bytes_field 4 (body_text y)) node_text (λ y. AreBody y × IsFileBody y) (λ y. AreBody y × IsFileBody y) Anywhere Anywhere (λ y h. file_field_text y h.1) (λ y h. h) (λ y h. h) (λ rest h. h) one

Spells-dir_field : Spells (field_with 5 directory_at) node_text (λ y. AreBody y × IsDirBody y) Anywhere
Spells-dir_field =
    let one = Spells-field_with 5 directory_at body_text (λ y. AreBody y × IsDirBody y) Anywhere (omega arith) tt Spells-directory in
    Spells-same (field_with 5 directory_at) (λ y. bytes_field 5 (body_text y)) node_text (λ y. AreBody y × IsDirBody y) (λ y. AreBody y × IsDirBody y) Anywhere Anywhere (λ y h. dir_field_text y h.1) (λ y h. h) (λ y h. h) (λ rest h. h) one

abbrev Says : Bool → Bool → Body → Type 0
Says true is_directory y = IsFileBody y
Says false true y = IsDirBody y
Says false false y = ⊥

abbrev by_tests : Bool → Bool → Reader Body
by_tests is_file is_directory bytes = cond is_file (field_with 4 file_at bytes) (cond is_directory (field_with 5 directory_at bytes) None)

Spells-by_tests : (is_file is_directory : Bool) → Spells (by_tests is_file is_directory) node_text (λ y. AreBody y × Says is_file is_directory y) Anywhere
Spells-by_tests true is_directory = Spells-file_field
Spells-by_tests false true = Spells-dir_field
Spells-by_tests false false = record { again = λ y rest h ends short. absurd h.1; exact = λ bytes found e. absurd (let f : None ≡ Some found = e in cc) }

says_number : (number : ℕ) (y : Body) (a b : Bool) → eqb number 1 ≡ a → eqb number 2 ≡ b → Says a b y → kind_number y.0 ≡ number
says_number number y true b e f h = h ∙ sym (eqb-true number 1 e)
says_number number y false true e f h = h ∙ sym (eqb-true number 2 f)
says_number number y false false e f h = absurd h

number_says : (number : ℕ) (y : Body) → kind_number y.0 ≡ number → Says (eqb number 1) (eqb number 2) y
number_says number (File replication is_open blocks, a) e = subst (λ n. Says (eqb n 1) (eqb n 2) (File replication is_open blocks, a)) e refl
number_says number (Dir quota, a) e = subst (λ n. Says (eqb n 1) (eqb n 2) (Dir quota, a)) e refl

Spells-kind : (number : ℕ) → Spells (kind_at number) node_text (λ y. AreBody y × (kind_number y.0 ≡ number)) Anywhere
unfolding kind_at
Spells-kind number =
    Spells-same (kind_at number) node_text node_text (λ y. AreBody y × Says (eqb number 1) (eqb number 2) y) (λ y. AreBody y × (kind_number y.0 ≡ number)) Anywhere Anywhere
    (λ y h. refl) (λ y h. (h.0, says_number number y (eqb number 1) (eqb number 2) refl refl h.1)) (λ y h. (h.0, number_says number y h.1)) (λ rest h. h)
    (Spells-by_tests (eqb number 1) (eqb number 2))

-- ---- the whole message

abbrev IsNodeName : Bytes → Type 0
IsNodeName name = (name ≡ []) ⊎ (is_name name ≡ true)

either_is : (name : Bytes) → (eqb (length name) 0 || is_name name) ≡ true → IsNodeName name
either_is [] e = inl refl
either_is (b ∷ rest) e = inr (or_false (eqb (length (b ∷ rest)) 0) (is_name (b ∷ rest)) (no_zero b rest) e)
  where
    or_false : (a b : Bool) → a ≡ false → (a || b) ≡ true → b ≡ true
    or_false true c f e = absurd cc
    or_false false c f e = e

    no_zero : (b : ℕ) (rest : Bytes) → eqb (length (b ∷ rest)) 0 ≡ false
    no_zero b rest = ne_eqb (length (b ∷ rest)) 0 (λ e. omega arith)

is_either : (name : Bytes) → IsNodeName name → (eqb (length name) 0 || is_name name) ≡ true
is_either name is = elim is [
  | inl e ↦ rw (eq-eqb (length name) 0 (ap length e)) refl
  | inr e ↦ or_right (eqb (length name) 0) (is_name name) e
]

Spells-name : Spells name_at (bytes_field 3) IsNodeName Anywhere
unfolding name_at
Spells-name =
    Spells-same (only (λ name. eqb (length name) 0 || is_name name) (bytes_field_at 3)) (bytes_field 3) (bytes_field 3) (λ name. Unit {0} × ((eqb (length name) 0 || is_name name) ≡ true)) IsNodeName Anywhere Anywhere
    (λ name h. refl) (λ name h. either_is name h.1) (λ name h. (tt, is_either name h)) (λ rest h. h)
    (Spells-only (λ name. eqb (length name) 0 || is_name name) (bytes_field_at 3) (bytes_field 3) (λ content. Unit {0}) Anywhere (Spells-bytes_field 3 (omega arith)))

abbrev InodeParts : Type 0
InodeParts = ℕ × (Bytes × Body)

abbrev AreInodeParts : InodeParts → Type 0
AreInodeParts y = IsLong y.0 × (IsNodeName y.1.0 × AreBody y.1.1)

abbrev kind_of : InodeParts → ℕ
kind_of y = kind_number y.1.1.0

abbrev inode_rest_text : InodeParts → Bytes
inode_rest_text y = varint_field 2 y.0 ++ (bytes_field 3 y.1.0 ++ node_text y.1.1)

Spells-inode_rest : (number : ℕ) → Spells (long_at 2 then name_at then kind_at number) inode_rest_text (λ y. AreInodeParts y × (kind_of y ≡ number)) Anywhere
Spells-inode_rest number =
    let two = Spells-then name_at (kind_at number) (bytes_field 3) node_text IsNodeName (λ y. AreBody y × (kind_number y.0 ≡ number)) Anywhere Anywhere Spells-name (Spells-kind number) (λ y rest h k. tt) in
    let one = Spells-then (long_at 2) _ (varint_field 2) _ IsLong _ Anywhere Anywhere (Spells-long 2 (omega arith)) two (λ y rest h k. tt) in
    Spells-same (long_at 2 then name_at then kind_at number) inode_rest_text inode_rest_text (λ y. IsLong y.0 × (IsNodeName y.1.0 × (AreBody y.1.1 × (kind_of y ≡ number)))) (λ y. AreInodeParts y × (kind_of y ≡ number)) Anywhere Anywhere
    (λ y h. refl) (λ y h. ((h.0, (h.1.0, h.1.1.0)), h.1.1.1)) (λ y h. (h.0.0, (h.0.1.0, (h.0.1.1, h.1)))) (λ rest h. h) one

kind_small : (kind : Kind) → kind_number kind < 2 ^ 64
kind_small (File replication is_open blocks) = omega arith
kind_small (Dir quota) = omega arith

abbrev inode_with : InodeParts → Inode
inode_with x = record { id = x.0; name = x.1.0; attributes = x.1.1.1; kind = x.1.1.0 }

abbrev inode_parts_of : Inode → InodeParts
inode_parts_of i = (i.id, (i.name, (i.kind, i.attributes)))

pub Spells-inode : Spells inode_at inode IsInode Anywhere
unfolding inode_at inode
Spells-inode =
    let r = chosen (varint_field_at 1) (λ number. long_at 2 then name_at then kind_at number) in
    let parts = Spells-chosen (varint_field_at 1) (λ number. long_at 2 then name_at then kind_at number) kind_of (varint_field 1) inode_rest_text IsVarintNumber AreInodeParts Anywhere Anywhere
    (Spells-varint_field 1 (omega arith)) Spells-inode_rest (λ y rest h k. tt) in
    let all = Spells-mapped inode_with inode_parts_of r (λ y. varint_field 1 (kind_of y) ++ inode_rest_text y) (λ y. IsVarintNumber (kind_of y) × AreInodeParts y) Anywhere (λ x h. refl) (λ i. refl) parts in
    Spells-same inode_at _ inode _ IsInode Anywhere Anywhere
    (λ i h. simp append_assoc refl)
    (λ i h. record { id = h.1.0; name = h.1.1.0; attributes = h.1.1.1.attributes; kind = h.1.1.1.kind; some = h.1.1.1.some })
    (λ i h. (kind_small i.kind, (h.id, (h.name, record { kind = h.kind; attributes = h.attributes; some = h.some }))))
    (λ rest h. h) all
