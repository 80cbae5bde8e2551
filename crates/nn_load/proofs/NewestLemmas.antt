-- The newest intact image of a folder, by what was read of its listing from the end.
use Rattle.std.proofs.Common.{◌≡◌, ◌≢◌, inl, inr, ℕ, ◌+◌, ◌<◌, ◌≤◌, ◌^◌, List, length, Option, Some, None, is_some, Result, Ok, Err, is_ok, refl, sym, ◌∙◌, ap, subst, arith}
use Rattle.std.specs.Prelude.{IsErrAnd}
use Rattle.std.proofs.lemmas.Bool.{cases_lt, cases_order}
use Rattle.nn_base.specs.declared.sub.Sub.{Sub}
use Rattle.nn_base.specs.declared.file_name.FileName.{FileName}
use Rattle.nn_base.specs.declared.file_name.FileName.TheVariants.{Image}
use Rattle.nn_host.specs.Disk.{Reads}
use Rattle.nn_host.specs.declared.host.ListFault.{ListFault}
use Rattle.nn_host.specs.declared.host.ListFault.TheVariants as list_fault
use Rattle.nn_host.specs.Listing.{IsListing, host_part}
use Rattle.nn_host.specs.Moments.{State}
use Rattle.nn_host.specs.Runs.{Looked}
use Rattle.nn_record.specs.declared.transaction.Record.{Record}
use Rattle.nn_marks.specs.declared.version.Version.{Version}
use Rattle.nn_tree.specs.Namespace.{Namespace}
use Rattle.nn_chain.specs.declared.why.ImageWhy.{ImageWhy}
use Rattle.nn_chain.specs.declared.why.ImageWhy.TheVariants.{Absent}
use Rattle.nn_chain.specs.Folder.{folder_at}
use Rattle.nn_chain.specs.Images.{IsIntact, HasIntact, IsUnsound, IsLastUnsound, HasNoImage}
use Rattle.nn_chain.specs.declared.image.ReadImage.{ReadImage}
use Rattle.nn_chain.specs.declared.image.ReadImage.TheVariants.{Failed, Unsound, Memory}
use Rattle.nn_chain.specs.Reading.{IsTold}
use Rattle.nn_chain.specs.Chain.{Leads, IsEnd, IsChain}
use Rattle.nn_chain.proofs.LawLemmas.{none_intact_unsound}
use Rattle.nn_load.specs.declared.fault.ChainFault.{ChainFault}
use Rattle.nn_load.specs.Loading.{answered_chain, unlisted}
use Rattle.nn_load.specs.Queue.{StandsAt}
use Rattle.nn_load.specs.Newest.{HasNoImages, IsLastBefore, NoneIntactFrom, IsNewestOf, IsPassedOver}
use Rattle.nn_load.proofs.OrderLemmas.{images_ascend, in_order}
use Rattle.nn_load.proofs.QueueLemmas.{one_at}

pub one_more_none : (names : List FileName) (k end : ℕ) → HasNoImages names (k + 1) end → ((id : ℕ) → ¬ StandsAt names k (Image id)) → HasNoImages names k end
one_more_none names k end behind here j id from below at = elim (cases_order k j) [
  | inl same ↦ here id (subst (λ n. StandsAt names n (Image id)) (sym same) at)
  | inr apart ↦ elim apart [ inl later ↦ behind j id (omega arith) below at | inr earlier ↦ absurd (omega arith) ]
]

module _ (reads : Reads) (sub : Sub) (version : Version) (names : List FileName) (listing : IsListing reads sub names) where
  listed : (id : ℕ) (bytes : List ℕ) → folder_at reads sub (Image id) ≡ Some bytes → (k : ℕ) × StandsAt names k (Image id)
  listed id bytes there = let found = listing.all (Image id) (ap is_some there) in (found.0, record { below = found.1; is = found.2 })

  -- an image at an earlier place has a smaller id
  not_later : (j k later id : ℕ) → later < 2 ^ 63 → id < 2 ^ 63 → StandsAt names j (Image later) → StandsAt names k (Image id) → j ≤ k → id < later → ⊥
  not_later j k later id later_in id_in p q le above = elim (cases_order j k) [
    | inl same ↦ let one = one_at names k (Image later) (Image id) (subst (λ n. StandsAt names n (Image later)) same p) q in let ids : later ≡ id = cc in omega arith
    | inr apart ↦ elim apart [ inl lower ↦ let less = images_ascend later id later_in id_in (in_order names j k (Image later) (Image id) listing.ascending lower q.below p.is q.is) in omega arith | inr higher ↦ absurd (omega arith) ]
  ]

  module _ (end k id : ℕ) (last : IsLastBefore names end k id) where
    pub newest_is : (ns : Namespace) → NoneIntactFrom (folder_at reads sub) version names end → IsIntact (folder_at reads sub) version id ns → IsNewestOf (folder_at reads sub) version id ns
    newest_is ns none intact = record { intact = intact; newest = record { intact = (ns, intact); last = above } }
      where
        above : (later : ℕ) → id < later → ¬ HasIntact (folder_at reads sub) version later
        above later lt has = let at = listed later has.1.bytes has.1.there in elim (cases_lt at.0 end) [
          | inr passed ↦ none at.0 later passed at.1 has
          | inl before ↦ elim (cases_lt k at.0) [
            | inl behind ↦ last.behind at.0 later (omega arith) before at.1
            | inr earlier ↦ not_later at.0 k later id has.1.image.long last.ranged at.1 last.stands earlier lt
          ]
        ]

    -- none from its place on is intact, where it isn't
    pub none_from : (why : ImageWhy) → NoneIntactFrom (folder_at reads sub) version names end → IsUnsound (folder_at reads sub) version id why → NoneIntactFrom (folder_at reads sub) version names k
    none_from why none unsound j other from at has = elim (cases_lt j end) [
      | inr passed ↦ none j other passed at has
      | inl before ↦ elim (cases_lt k j) [
        | inl behind ↦ last.behind j other (omega arith) before at
        | inr same ↦
            let place : j ≡ k = omega arith in
            let one = one_at names k (Image other) (Image id) (subst (λ n. StandsAt names n (Image other)) place at) last.stands in
            let ids : other ≡ id = cc in
            none_intact_unsound (folder_at reads sub) version id why (subst (HasIntact (folder_at reads sub) version) ids has) unsound
      ]
    ]

  pub none_behind : NoneIntactFrom (folder_at reads sub) version names (length names)
  none_behind j id from at has = omega (arith, at.below)

  -- what is wrong with the last image of all
  pub last_unsound : (k id : ℕ) (why : ImageWhy) → IsLastBefore names (length names) k id → IsUnsound (folder_at reads sub) version id why → IsLastUnsound (folder_at reads sub) version why
  last_unsound k id why last unsound = record { id = id; last = record { ranged = last.ranged; there = there; last = none }; unsound = unsound }
    where
      there : folder_at reads sub (Image id) ≢ None
      there gone = let found = listing.only (Image id) (k, last.stands.below, last.stands.is) in let other = sym found ∙ ap is_some gone in cc

      none : (later : ℕ) → later < 2 ^ 63 → id < later → folder_at reads sub (Image later) ≡ None
      none later later_in lt = by (folder_at reads sub (Image later)) refl
        where
          by : (o : Option (List ℕ)) → folder_at reads sub (Image later) ≡ o → folder_at reads sub (Image later) ≡ None
          by None e = e
          by (Some bytes) e = let at = listed later bytes e in elim (cases_lt k at.0) [
            | inl behind ↦ absurd (last.behind at.0 later (omega arith) at.1.below at.1)
            | inr earlier ↦ absurd (not_later at.0 k later id later_in last.ranged at.1 last.stands earlier lt)
          ]

  -- none is intact
  pub no_image : (end : ℕ) (why : ImageWhy) → NoneIntactFrom (folder_at reads sub) version names end → HasNoImages names 0 end → IsLastUnsound (folder_at reads sub) version why → HasNoImage (folder_at reads sub) version why
  no_image end why none before unsound = record {
    none = λ id has. let at = listed id has.1.bytes has.1.there in elim (cases_lt at.0 end) [ inl lower ↦ before at.0 id (omega arith) lower at.1 | inr passed ↦ none at.0 id passed at.1 has ];
    why_is = inr unsound;
  }

  -- there is none at all
  pub no_image_file : HasNoImages names 0 (length names) → HasNoImage (folder_at reads sub) version Absent
  no_image_file none = record {
    none = λ id has. let at = listed id has.1.bytes has.1.there in none at.0 id (omega arith) at.1.below at.1;
    why_is = inl (refl, λ id ranged. by id (folder_at reads sub (Image id)) refl);
  }
    where
      by : (id : ℕ) (o : Option (List ℕ)) → folder_at reads sub (Image id) ≡ o → folder_at reads sub (Image id) ≡ None
      by id None e = e
      by id (Some bytes) e = let at = listed id bytes e in absurd (none at.0 id (omega arith) at.1.below at.1)

  -- the image before a place, that wasn't read or isn't intact
  pub passed_over : (end k id : ℕ) → IsLastBefore names end k id → NoneIntactFrom (folder_at reads sub) version names end → (answer : ReadImage) → IsTold (folder_at reads sub) version id answer → IsPassedOver (folder_at reads sub) version names end k answer
  passed_over end k id last none Failed told = tt
  passed_over end k id last none (Unsound why) told = (none_from end k id last why none told, λ e. last_unsound k id why (subst (λ n. IsLastBefore names n k id) e last) told)
  passed_over end k id last none Memory told = tt

-- the newest image with the records that are replayed over it
pub chain_is : (one two three : Reads) (sub : Sub) (version : Version) (id last : ℕ) (ns end : Namespace) → two ≡ one → three ≡ two → IsNewestOf (folder_at two sub) version id ns
    → (records : List Record) × Leads (folder_at three sub) version.layout (record { last = id; ns = ns }) records (record { last = last; ns = end }) × IsEnd (folder_at three sub) version.layout (record { last = last; ns = end })
    → IsChain (folder_at one sub) version (record { last = last; ns = end })
chain_is one two three sub version id last ns end same again newest led = subst (λ (r : Reads). IsChain (folder_at r sub) version (record { last = last; ns = end })) same (record {
  image = id;
  newest = newest.newest;
  from = record {
    base = ns;
    intact = newest.intact;
    records = led.0;
    leads = subst (λ (r : Reads). Leads (folder_at r sub) version.layout (record { last = id; ns = ns }) led.0 (record { last = last; ns = end })) again led.1;
    ends = subst (λ (r : Reads). IsEnd (folder_at r sub) version.layout (record { last = last; ns = end })) again led.2;
  };
})

-- a folder that wasn't listed
pub unlisted_kept : {T told : Type 0} {i : ℕ} {a b : State} (result : Result T ChainFault) (found : ListFault) → IsErrAnd result (λ e. e ≡ unlisted found) → Looked told i a b (is_ok (host_part (Err found))) → Looked told i a b (answered_chain result)
unlisted_kept (Ok value) found is p = absurd is
unlisted_kept {T} {told} {i} {a} {b} (Err e) found is p = subst (λ (x : ChainFault). Looked told i a b (answered_chain {T = T} (Err x))) (sym is) (by found p)
  where
    by : (found : ListFault) → Looked told i a b (is_ok (host_part (Err found))) → Looked told i a b (answered_chain {T = T} (Err (unlisted found)))
    by list_fault.Failed p = p
    by list_fault.Memory p = p
