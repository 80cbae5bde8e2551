-- One directory: what serves in it where it isn't formatted, and where its `current` has a whole image and no record.
use Rattle.std.proofs.Common.{◌≡◌, ℕ, ◌+◌, ◌≤◌, Bool, Some, None, Result, refl, sym, ◌∙◌, ap, subst}
use Rattle.std.proofs.lemmas.Option.{none-some}
use Rattle.nn_base.specs.declared.sub.Sub.TheVariants.{Current, Previous}
use Rattle.nn_host.specs.Disk.{Reads}
use Rattle.nn_marks.specs.declared.version.Version.{Version}
use Rattle.nn_state.specs.declared.state.StorageState.{StorageState}
use Rattle.nn_state.specs.declared.state.Why.{Why}
use Rattle.nn_state.specs.Table.{seven_of, table_of}
use Rattle.nn_state.specs.Typed.{FitsFresh}
use Rattle.nn_state.specs.Seat.{seat_by, if_there, serving, saved}
use Rattle.nn_tree.specs.Namespace.{Namespace}
use Rattle.nn_chain.specs.Folder.{Folder, HasVersion, HasSeen}
use Rattle.nn_chain.specs.Records.{HasNoRecord}
use Rattle.nn_chain.specs.Chain.{Reached, IsChain, EndsBare}
use Rattle.nn_chain.proofs.BareLemmas.{bare_chain}
use Rattle.nn_pick.specs.Refused.{unusable}
use Rattle.nn_pick.specs.Dirs.{IsFormatted, ServesCurrent, ServesUnder, fault_in, version_fault}
use Rattle.nn_pick.specs.Laws.{HoldsImage}
use Rattle.nn_pick.proofs.VersionLemmas.{SaysTheSame, one_version, one_current}
use Rattle.nn_pick.proofs.UnderLemmas.{version_under, intact_under, one_end}

pub serves_formatted : (c : Reads) (folder : Folder) → ServesCurrent c folder → IsFormatted c
serves_formatted c folder is gone = none-some is.sub (sym gone ∙ is.serves)

-- ---- not formatted

module _ (c : Reads) (fresh : FitsFresh c) where
  pub fresh_serves : serving c ≡ None
  fresh_serves = ap (λ (r : Result StorageState Why). (seat_by r (seven_of c)).current) fresh

  pub fresh_usable : (i : ℕ) → unusable i (table_of (seven_of c)) ≡ None
  fresh_usable i = ap (λ (r : Result StorageState Why). unusable i r) fresh

-- ---- an image

module _ {c : Reads} {version : Version} {id : ℕ} {ns : Namespace} (h : HoldsImage c version id ns) where
  serves : serving c ≡ Some Current
  serves = ap (λ (r : Result StorageState Why). (seat_by r (seven_of c)).current) h.normal

  pub holds_formatted : IsFormatted c
  holds_formatted gone = none-some Current (sym gone ∙ serves)

  pub saves_none : saved c ≡ None
  saves_none = ap (λ (r : Result StorageState Why). (seat_by r (seven_of c)).previous) h.normal ∙ ap (λ (there : Bool). if_there there Previous) h.nothing_saved

  pub holds_usable : (i : ℕ) → unusable i (table_of (seven_of c)) ≡ None
  holds_usable i = ap (λ (r : Result StorageState Why). unusable i r) h.normal

  its_current : ServesCurrent c (c.file Current)
  its_current = record { sub = Current; serves = serves; is = refl }

  pub its_under : ServesUnder c version (c.file Current)
  its_under = record { serves = its_current; says = h.says }

  -- whatever serves is that folder, and its VERSION says the same

  pub at : (its : Folder) → ServesCurrent c its → its ≡ c.file Current
  at its is = one_current c its (c.file Current) is its_current

  pub same : (other : Version) (its : Folder) → ServesUnder c other its → SaysTheSame other version
  same other its is = one_version (c.file Current) other version (subst (λ (f : Folder). HasVersion f other) (at its is.serves) is.says) h.says

  pub no_fault : (its : Folder) → ServesCurrent c its → version_fault its ≡ None
  no_fault its is = ap version_fault (at its is) ∙ ap fault_in h.says.1 ∙ h.says.2.sound

  pub few_seen : (its : Folder) (seen : ℕ) → ServesCurrent c its → HasSeen its seen → seen ≤ id + 1
  few_seen its seen is has = h.seen seen (subst (λ (f : Folder). HasSeen f seen) (at its is) has)

  -- its chain is the image alone

  pub its_chain : IsChain (c.file Current) version (record { last = id; ns = ns })
  its_chain = (bare_chain (c.file Current) version id ns h.intact h.later h.segments).0

  pub its_end : (other : Version) (its : Folder) (end : Reached) → ServesUnder c other its → IsChain its other end → end ≡ record { last = id; ns = ns }
  its_end other its end is chain = one_end its (c.file Current) other version end (record { last = id; ns = ns }) (at its is.serves) (same other its is) chain its_chain

  pub ends_bare : (other : Version) (its : Folder) (end : Reached) → ServesUnder c other its → IsChain its other end → EndsBare its other end
  ends_bare other its end is chain =
      let bare = (bare_chain (c.file Current) version id ns h.intact h.later h.segments).1 in
      let here = subst (λ (f : Folder). HasNoRecord f version.layout (id + 1)) (sym (at its is.serves)) bare in
      let under = subst (λ layout. HasNoRecord its layout (id + 1)) (sym (same other its is).layout) here in
      subst (EndsBare its other) (sym (its_end other its end is chain)) under

-- under each VERSION that says the same
pub holds_under : (c : Reads) (v w : Version) (id : ℕ) (ns : Namespace) → SaysTheSame v w → HoldsImage c w id ns → HoldsImage c v id ns
holds_under c v w id ns same h = record {
  normal = h.normal;
  nothing_saved = h.nothing_saved;
  says = version_under (c.file Current) v w same h.says;
  ours = same.layout ∙ h.ours;
  intact = intact_under (c.file Current) v w id ns same h.intact;
  later = h.later;
  segments = h.segments;
  seen = h.seen;
  room = h.room;
}
