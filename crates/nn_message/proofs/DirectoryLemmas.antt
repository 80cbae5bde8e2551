-- A directory that is spelled is read again, and nothing else is read as one.
use Rattle.std.proofs.Common.{◌≡◌, ◌≢◌, ℕ, ◌^◌, ◌<◌, true, false, ◌&&◌, ltb, ◌++◌, Option, Some, None, refl, ap, subst, ◌∙◌, append_assoc, arith}
use Rattle.std.specs.Prelude.{IfSome}
use Rattle.std.proofs.lemmas.Bool.{lt-ltb, ltb-true}
use Rattle.nn_base.specs.Limits.{IsLong}
use Rattle.nn_base.specs.Paths.{Bytes}
use Rattle.nn_wire.specs.Varint.{varint, spelled_within}
use Rattle.nn_wire.specs.Field.{varint_field}
use Rattle.nn_tree.specs.declared.node.Kind.TheVariants.{File, Dir}
use Rattle.nn_message.specs.Spelling.{optional, access, directory, kind_number}
use Rattle.nn_message.specs.Reading.{Spells, Anywhere, ◌then◌, has_key, maybe}
use Rattle.nn_message.specs.MessageReading.{is_long, long_at, access_at, attributes_with, names_at, directory_at}
use Rattle.nn_message.proofs.SpellsLemmas.{Spells-then, Spells-into, Spells-same}
use Rattle.nn_message.proofs.FieldLemmas.{Spells-maybe, text_or_none}
use Rattle.nn_message.proofs.MessageLemmas.{both_is, is_both, Spells-tested, Spells-long}
use Rattle.nn_message.proofs.FileLemmas.{IsAccess, access_text, Spells-access, Body, AreBody, body_text, access_of}

-- ---- a directory

abbrev IsNames : ℕ → Type 0
IsNames n = (0 < n) × IsLong n

Spells-names : Spells names_at (varint_field 2) IsNames Anywhere
unfolding names_at
Spells-names = Spells-tested 2 (λ n. ltb 0 n && is_long n) IsNames (omega arith)
    (λ n h. let p = both_is _ _ h in (ltb-true 0 n p.0, ltb-true n (2 ^ 63) p.1))
    (λ n h. (is_both _ _ (lt-ltb 0 n h.0) (lt-ltb n (2 ^ 63) h.1), omega arith))

abbrev DirParts : Type 0
DirParts = ℕ × (Option ℕ × (Option ℕ × (ℕ × (ℕ × ℕ))))

abbrev AreDirParts : DirParts → Type 0
AreDirParts x = IsLong x.0 × (IfSome x.1.0 IsNames × (IfSome x.1.1.0 IsLong × IsAccess x.1.1.1))

abbrev dir_parts_text : DirParts → Bytes
dir_parts_text x = varint_field 1 x.0 ++ (text_or_none (varint_field 2) x.1.0 ++ (text_or_none (varint_field 3) x.1.1.0 ++ access_text 4 x.1.1.1))

names_key : (n : ℕ) (rest : Bytes) → has_key 16 (varint_field 2 n ++ rest) ≡ true
unfolding varint spelled_within
names_key n rest = refl

space_key : (n : ℕ) (rest : Bytes) → has_key 24 (varint_field 3 n ++ rest) ≡ true
unfolding varint spelled_within
space_key n rest = refl

access_no_space : (x : ℕ × (ℕ × ℕ)) (rest : Bytes) → has_key 24 (access_text 4 x ++ rest) ≡ false
unfolding varint spelled_within
access_no_space x rest = refl

space_no_names : (space : Option ℕ) (x : ℕ × (ℕ × ℕ)) (rest : Bytes) → has_key 16 ((text_or_none (varint_field 3) space ++ access_text 4 x) ++ rest) ≡ false
unfolding varint spelled_within
space_no_names None x rest = refl
space_no_names (Some n) x rest = refl

Spells-dir_parts : Spells (long_at 1 then maybe 16 names_at then maybe 24 (long_at 3) then access_at 4) dir_parts_text AreDirParts Anywhere
Spells-dir_parts =
    let names = Spells-maybe 16 names_at (varint_field 2) IsNames Anywhere Spells-names names_key in
    let space = Spells-maybe 24 (long_at 3) (varint_field 3) IsLong Anywhere (Spells-long 3 (omega arith)) space_key in
    let three = Spells-then (maybe 24 (long_at 3)) (access_at 4) (text_or_none (varint_field 3)) (access_text 4) (λ o. IfSome o IsLong) IsAccess _ Anywhere space (Spells-access 4 (omega arith)) (λ x rest h k. (tt, access_no_space x rest)) in
    let two = Spells-then (maybe 16 names_at) _ (text_or_none (varint_field 2)) _ (λ o. IfSome o IsNames) _ _ Anywhere names three (λ y rest h k. (tt, space_no_names y.0 y.1 rest)) in
    Spells-then (long_at 1) _ (varint_field 1) _ IsLong _ Anywhere Anywhere (Spells-long 1 (omega arith)) two (λ y rest h k. tt)

dir_parts_of : Body → DirParts
dir_parts_of (File replication is_open blocks, a) = (0, (None, (None, access_of a)))
dir_parts_of (Dir quota, a) = (a.time, (quota.names, (quota.space, access_of a)))

abbrev dir_with : DirParts → Body
dir_with x = (Dir (record { names = x.1.0; space = x.1.1.0 }), attributes_with x.0 x.1.1.1)

abbrev pub IsDirBody : Body → Type 0
IsDirBody x = kind_number x.0 ≡ 2

dir_back : (x : DirParts) → dir_parts_of (dir_with x) ≡ x
unfolding dir_parts_of
dir_back x = refl

dir_there : (y : Body) → IsDirBody y → dir_with (dir_parts_of y) ≡ y
unfolding dir_parts_of
dir_there (File replication is_open blocks, a) is = absurd (omega arith)
dir_there (Dir quota, a) is = refl

optional_text : (number : ℕ) (o : Option ℕ) → text_or_none (varint_field number) o ≡ optional number o
unfolding optional
optional_text number None = refl
optional_text number (Some n) = refl

dir_text : (y : Body) → IsDirBody y → dir_parts_text (dir_parts_of y) ≡ body_text y
unfolding dir_parts_of directory access
dir_text (File replication is_open blocks, a) is = absurd (omega arith)
dir_text (Dir quota, a) is = rw (optional_text 2 quota.names, optional_text 3 quota.space) (simp append_assoc refl)

if_some_all : (o : Option ℕ) (P : ℕ → Type 0) → IfSome o P → (n : ℕ) → o ≡ Some n → P n
if_some_all None P is n e = absurd cc
if_some_all (Some m) P is n e = let same : m ≡ n = cc in subst P same is

all_if_some : (o : Option ℕ) (P : ℕ → Type 0) → ((n : ℕ) → o ≡ Some n → P n) → IfSome o P
all_if_some None P all = tt
all_if_some (Some m) P all = all m refl

dir_is_body : (y : Body) → IsDirBody y → AreDirParts (dir_parts_of y) → AreBody y
unfolding dir_parts_of
dir_is_body (File replication is_open blocks, a) is h = absurd (omega arith)
dir_is_body (Dir quota, a) is h = record {
  kind = record {
    replicated = λ r e. absurd (let f : None ≡ Some r = e in cc);
    few = omega arith;
    blocks = λ k d below. absurd (omega arith);
    names = λ n e. (if_some_all quota.names IsNames h.1.0 n e).1;
    space = λ n e. if_some_all quota.space IsLong h.1.1.0 n e;
  };
  attributes = record { time = h.0; owner = h.1.1.1.0; group = h.1.1.1.1.0; mode = h.1.1.1.1.1 };
  some = λ e. omega (arith, (if_some_all quota.names IsNames h.1.0 0 e).0);
}

body_is_dir : (y : Body) → IsDirBody y → AreBody y → AreDirParts (dir_parts_of y)
unfolding dir_parts_of
body_is_dir (File replication is_open blocks, a) is h = absurd (omega arith)
body_is_dir (Dir quota, a) is h =
    let names : (n : ℕ) → quota.names ≡ Some n → IsNames n = λ n e. (let apart : n ≢ 0 = λ z. h.some (e ∙ ap (λ m. Some m) z) in omega arith, h.kind.names n e) in
    (h.attributes.time, (all_if_some quota.names IsNames names, (all_if_some quota.space IsLong h.kind.space, (h.attributes.owner, (h.attributes.group, h.attributes.mode)))))

pub Spells-directory : Spells directory_at body_text (λ y. AreBody y × IsDirBody y) Anywhere
unfolding directory_at
Spells-directory =
    let made = Spells-into dir_with dir_parts_of (long_at 1 then maybe 16 names_at then maybe 24 (long_at 3) then access_at 4) dir_parts_text AreDirParts IsDirBody Anywhere (λ x h. dir_back x) (λ x h. refl) dir_there Spells-dir_parts in
    Spells-same directory_at (λ y. dir_parts_text (dir_parts_of y)) body_text (λ y. AreDirParts (dir_parts_of y) × IsDirBody y) (λ y. AreBody y × IsDirBody y) Anywhere Anywhere
    (λ y h. dir_text y h.1) (λ y h. (dir_is_body y h.1 h.0, h.1)) (λ y h. (body_is_dir y h.1 h.0, h.1)) (λ rest h. h) made
