-- What the words of each command ask for, once they were read as a line.
use Rattle.std.proofs.Common.{◌≡◌, ◌≤◌, ℕ, Bool, true, false, ◌&&◌, List, [], ◌∷◌, length, codes, Option, Some, None, option_and_then, if◌then◌else◌, inl, inr, refl, sym, arith}
use Rattle.std.proofs.lemmas.Bool.{false≢true}
use Rattle.nn_top.specs.declared.words.options.OptionName.TheVariants.{Cluster, Namespace, At, Generate}
use Rattle.nn_top.specs.declared.words.line.Values.{Values}
use Rattle.nn_top.specs.Words.{Word, are_dirs}
use Rattle.nn_top.specs.Parts.{Part, is_line, dirs_among, values_of}
use Rattle.nn_top.specs.Wanted.{Wanted}
use Rattle.nn_top.specs.Commands.{states_in, dry_in, once, cluster_in, namespace_in, format_for, format_in, at_in, generated_in, run_for, run_in}
use Rattle.nn_top.specs.Options.{given_value, IsReadAs, IsUnread}

pub once_of_two : (values : List Word) → 2 ≤ length values → once values ≡ None
once_of_two [] two = absurd (omega arith)
once_of_two (value ∷ []) two = absurd (omega arith)
once_of_two (value ∷ other ∷ values) two = refl

pub at_of_two : (values : List Word) → 2 ≤ length values → at_in values ≡ None
at_of_two [] two = absurd (omega arith)
at_of_two (value ∷ []) two = absurd (omega arith)
at_of_two (value ∷ other ∷ values) two = refl

pub generated_of_two : (values : List Word) → 2 ≤ length values → generated_in values ≡ None
generated_of_two [] two = absurd (omega arith)
generated_of_two (value ∷ []) two = absurd (omega arith)
generated_of_two (value ∷ other ∷ values) two = refl

pub no_number : (cluster : Option Word) (dirs : List Word) → format_for cluster None dirs ≡ None
no_number None dirs = refl
no_number (Some cluster) dirs = refl

pub no_files : (at : Option ℕ) (dirs : List Word) → run_for at None dirs ≡ None
no_files None dirs = refl
no_files (Some at) dirs = refl

pub either_none : (test : Bool) (found : Option Wanted) → found ≡ None → (if test then found else None) ≡ None
either_none true found none = none
either_none false found none = refl

-- ---- a line that isn't read

pub unread_states : (parts : List Part) → IsUnread [] parts → states_in parts ≡ None
unread_states parts (inl broken) = rw broken refl
unread_states parts (inr twice) = absurd (false≢true twice.1)

pub unread_dry : (parts : List Part) → IsUnread [] parts → dry_in parts ≡ None
unread_dry parts (inl broken) = rw broken refl
unread_dry parts (inr twice) = absurd (false≢true twice.1)

pub cluster_twice : (parts : List Part) → 2 ≤ length (values_of (codes "--cluster") parts) → format_in parts ≡ None
cluster_twice parts twice =
    let values = values_of (codes "--cluster") parts in
    either_none (is_line parts && are_dirs (dirs_among parts)) _ (rw (once_of_two values twice) refl)

pub namespace_twice : (parts : List Part) → 2 ≤ length (values_of (codes "--namespace") parts) → format_in parts ≡ None
namespace_twice parts twice =
    let values = values_of (codes "--namespace") parts in
    either_none (is_line parts && are_dirs (dirs_among parts)) _
    (rw (once_of_two values twice) (no_number (option_and_then cluster_in (once (values_of (codes "--cluster") parts))) (dirs_among parts)))

pub at_twice : (parts : List Part) → 2 ≤ length (values_of (codes "--at") parts) → run_in parts ≡ None
at_twice parts twice = either_none (is_line parts && are_dirs (dirs_among parts)) _ (rw (at_of_two (values_of (codes "--at") parts) twice) refl)

pub generate_twice : (parts : List Part) → 2 ≤ length (values_of (codes "--generate") parts) → run_in parts ≡ None
generate_twice parts twice =
    either_none (is_line parts && are_dirs (dirs_among parts)) _
    (rw (generated_of_two (values_of (codes "--generate") parts) twice) (no_files (at_in (values_of (codes "--at") parts)) (dirs_among parts)))

pub unread_format : (parts : List Part) → IsUnread (Cluster ∷ Namespace ∷ []) parts → format_in parts ≡ None
unread_format parts (inl broken) = rw broken refl
unread_format parts (inr (Cluster, taken, twice)) = cluster_twice parts twice
unread_format parts (inr (Namespace, taken, twice)) = namespace_twice parts twice
unread_format parts (inr (At, taken, twice)) = absurd (false≢true taken)
unread_format parts (inr (Generate, taken, twice)) = absurd (false≢true taken)

pub unread_run : (parts : List Part) → IsUnread (At ∷ Generate ∷ []) parts → run_in parts ≡ None
unread_run parts (inl broken) = rw broken refl
unread_run parts (inr (Cluster, taken, twice)) = absurd (false≢true taken)
unread_run parts (inr (Namespace, taken, twice)) = absurd (false≢true taken)
unread_run parts (inr (At, taken, twice)) = at_twice parts twice
unread_run parts (inr (Generate, taken, twice)) = generate_twice parts twice

-- ---- a line that is read

pub read_format : (parts : List Part) (values : Values) (dirs : List Word) → IsReadAs parts values dirs → are_dirs dirs ≡ true
    → format_in parts ≡ format_for (option_and_then cluster_in (once (given_value values.cluster))) (option_and_then namespace_in (once (given_value values.namespace))) dirs
read_format parts values dirs read are =
    let cluster : values_of (codes "--cluster") parts ≡ given_value values.cluster = sym (read.values Cluster) in
    let namespace : values_of (codes "--namespace") parts ≡ given_value values.namespace = sym (read.values Namespace) in
    rw read.whole (rw read.dirs (rw are (rw cluster (rw namespace refl))))

pub read_run : (parts : List Part) (values : Values) (dirs : List Word) → IsReadAs parts values dirs → are_dirs dirs ≡ true → run_in parts ≡ run_for (at_in (given_value values.at)) (generated_in (given_value values.generate)) dirs
read_run parts values dirs read are =
    let at : values_of (codes "--at") parts ≡ given_value values.at = sym (read.values At) in
    let files : values_of (codes "--generate") parts ≡ given_value values.generate = sym (read.values Generate) in
    rw read.whole (rw read.dirs (rw are (rw at (rw files refl))))
