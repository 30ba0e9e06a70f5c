-- A page that was written is watched, call by call, up to the harvest that covers it.
use Prim.Native.Nat.{ℕ, ◌-◌, ◌≤◌}
use mathlib.Core.Bool.{Bool, true, false}
use mathlib.Core.List.{List, [], ◌∷◌, ◌++◌}
use mathlib.Core.Logic.{◌⊎◌, inl, inr}
use Rattle.std.specs.Prelude.{Option, Some, Ok, Err}
use mathlib.Core.Path.{◌≡◌, refl, sym, ap, subst, subst⁻¹, subst₂, ◌∙◌}
use lib.ListN.{length}
use Rattle.descriptor.specs.Bytes.{Bytes}
use Rattle.descriptor.specs.Bits.{pick}
use Rattle.descriptor.proofs.Tests.{clash, differ}
use Rattle.vmsa.specs.Answers.{success}
use Rattle.vmsa.specs.declared.Regime.{Regime}
use Rattle.vmsa.specs.declared.Access.{Access}
use Rattle.checks.specs.Order.{Checked}
use Rattle.checks.specs.Order.{and_then, first_of, memory_rows, setting_rows}
use Rattle.bitmap.specs.Map.{map_bit}
use Rattle.harvest.specs.Harvest.{harvest as harvest_of}
use Rattle.harvest.proofs.Laws.{harvest_kept}
use Rattle.tlb.specs.Replies.{Reply, answered, harvested, harvest_reply, uncounted}
use Rattle.tlb.specs.Ours.{usable, offset_of, ours}
use Rattle.session.specs.declared.Session.{Session as SessionStruct}
use Rattle.session.specs.Model.{Session, Stepped, Handed, Call, set_regime, access, store, drop_all, harvest, held, fresh, set_by, access_with, store_by, store_in, harvest_in, call}
use Rattle.session.specs.View.{session_view, viewed}
use Rattle.session.proofs.Calls.{viewed_leaves}
use Rattle.calls.specs.Chains.{Event, event, Functions, Leaving, Chain, none_yet, more, is_done, regime_after}
use Rattle.rule3.specs.Events.{last_regime, settled}
use Rattle.rule3.specs.Rule3.{plainly, Alike, AccessIn, KeepsTo}
use Rattle.rule3.proofs.Memory.{accepted_usable}
use Rattle.rule3.proofs.Coherence.{Inv}
use Rattle.rule3.proofs.Final.{lawful, chain_inv}
use Rattle.rules_harvest.specs.Leaves.{PageLeaf, AskedFor}
use Rattle.no_page_lost.specs.Lost.{Wrote, AcceptedHarvest, Reported, disturbs, Undisturbed, harvests, Unharvested, TookAt, Took, here, earlier, accesses, StoresDropped, ReportedOnce, NoPageLost}
use Rattle.no_page_lost.proofs.Held.{Held, access_held_lem}
use Rattle.no_page_lost.proofs.Plain.{wrote_plain}
use Rattle.no_page_lost.proofs.Harvests.{Takes, harvest_held, covered, leaf_least, same_address}

-- ---- lists

first_of_lem : {A : Type 0} (d : A) → List A → A
first_of_lem d [] = d
first_of_lem d (x ∷ xs) = x

rest_of : {A : Type 0} → List A → List A
rest_of [] = []
rest_of (x ∷ xs) = xs

head_same : {A : Type 0} {x y : A} {xs ys : List A} → x ∷ xs ≡ y ∷ ys → x ≡ y
unfolding first_of_lem
head_same {x = x} e = ap (first_of_lem x) e

tail_same : {A : Type 0} {x y : A} {xs ys : List A} → x ∷ xs ≡ y ∷ ys → xs ≡ ys
unfolding rest_of
tail_same e = ap rest_of e

-- ---- the regime last accepted stays

still_regime : (c : Call) (reply : Reply) (g : Option Regime) → disturbs c reply ≡ false → regime_after c reply g ≡ g
still_regime (set_regime R) reply g e = ap (λ (b : Bool). pick b (Some R) g) e
still_regime (access a) reply g e = refl
still_regime (store address value) reply g e = refl
still_regime drop_all reply g e = refl
still_regime (harvest first count map) reply g e = refl

wrote_regime : (R : Regime) (e : Event) (page : ℕ) → Wrote R e page → (g : Option Regime) → regime_after e.made e.reply g ≡ g
wrote_regime R e page w g = ap (λ (c : Call). regime_after c e.reply g) w.made

between_regime : (R : Regime) (e : Event) (page : ℕ) → Wrote R e page → (between before : List Event) → Undisturbed between → last_regime (between ++ e ∷ before) ≡ last_regime before
between_regime R e page w [] before u = wrote_regime R e page w (last_regime before)
between_regime R e page w (x ∷ xs) before u = still_regime x.made x.reply (last_regime (xs ++ e ∷ before)) u.0 ∙ between_regime R e page w xs before u.1

-- ---- one call of the model

module _ (R : Regime) (s : Session) (m : List ℕ) (known : s.regime ≡ Some R) (valid : first_of (setting_rows R) ≡ Ok tt) (b : Bytes m) (page at : ℕ) (h : Held R m page at) where
  set_held : (q : Regime) (c : Checked) → Held R (set_by ours s m q c).memory page at
  set_held q (Ok _) = h
  set_held q (Err x) = h

  in_held : (a : Access) (g : Option Regime) → g ≡ Some R → Held R (access_with ours s m a g).memory page at
  in_held a g e = subst⁻¹ (λ (o : Option Regime). Held R (access_with ours s m a o).memory page at) e (access_held_lem R m valid b page at h a (held s.entries (ours.page R a)))

  store_held : (address value : ℕ) (c : Checked) → is_done (store_by ours R m address value c).reply ≡ false → Held R (store_by ours R m address value c).memory page at
  store_held address value (Ok _) e = differ e
  store_held address value (Err x) e = h

  stored_held : (address value : ℕ) (g : Option Regime) → g ≡ Some R → is_done (store_in ours g m address value).reply ≡ false → Held R (store_in ours g m address value).memory page at
  stored_held address value g e d =
      subst⁻¹ (λ (o : Option Regime). Held R (store_in ours o m address value).memory page at) e
      (store_held address value (and_then (first_of (memory_rows (length m) R)) (ours.store_check R address)) (subst (λ (o : Option Regime). is_done (store_in ours o m address value).reply ≡ false) e d))

  -- a harvest leaves it, or takes it
  taken : (first count : ℕ) (map : List ℕ) (c : Checked) → (harvest_of R first count m map).reply ≡ c
      → Held R (harvest_of R first count m map).memory page at ⊎ (((harvest_of R first count m map).reply ≡ Ok tt) × Takes R m first count map at)
  taken first count map (Err x) e = inl (subst⁻¹ (λ (l : List ℕ). Held R l page at) (harvest_kept R first count m map x e) h)
  taken first count map (Ok _) e = by (harvest_held R m b first count map e page at h)
    where
      by : Held R (harvest_of R first count m map).memory page at ⊎ Takes R m first count map at
          → Held R (harvest_of R first count m map).memory page at ⊎ (((harvest_of R first count m map).reply ≡ Ok tt) × Takes R m first count map at)
      by (inl k) = inl k
      by (inr k) = inr (e, k)

-- what a harvest took, in the event that it makes
took_at : (R : Regime) (m : List ℕ) → usable R ≡ true → (first count : ℕ) (map : List ℕ) (at address : ℕ) → offset_of R address ≡ at → R.pool.address.0 ≤ address
    → (harvest_of R first count m map).reply ≡ Ok tt → Takes R m first count map at → (e : Event) → e.made ≡ harvest first count map → e.found ≡ m
    → e.reply ≡ harvest_reply (harvest_of R first count m map).reply (harvest_of R first count m map).map → TookAt R address e
took_at R m good first count map at address oa la acc t e em ef er =
    record {
      first = first;
      count = count;
      map = (harvest_of R first count m map).map;
      harvest = record { given = map; made = em; reply = er ∙ ap (λ (c : Checked). harvest_reply c (harvest_of R first count m map).map) acc };
      page = t.page;
      asked = t.asked;
      leaf = subst⁻¹ (λ (l : List ℕ). PageLeaf R l t.page) ef t.leaf;
      same = leaf_address_lem ∙ same_address R t.leaf.address address (leaf_least R m t.page good t.leaf) la (t.offset ∙ sym oa);
      reported = t.reported;
    }
  where
    leaf_address_lem : (subst⁻¹ (λ (l : List ℕ). PageLeaf R l t.page) ef t.leaf).address ≡ t.leaf.address
    leaf_address_lem = refl

-- ---- one call, in the event that it makes

module _ (R : Regime) (s : Session) (m : List ℕ) (known : s.regime ≡ Some R) (valid : first_of (setting_rows R) ≡ Ok tt) (b : Bytes m) (page address : ℕ)
    (least : R.pool.address.0 ≤ address) (h : Held R m page (offset_of R address)) (e : Event) (ef : e.found ≡ m) where
  harvest_step : (first count : ℕ) (map : List ℕ) → e.made ≡ harvest first count map → (g : Option Regime) → g ≡ Some R
      → e.reply ≡ harvest_reply (harvest_in ours g first count m map).reply (harvest_in ours g first count m map).map
      → Held R (harvest_in ours g first count m map).memory page (offset_of R address) ⊎ TookAt R address e
  harvest_step first count map em g eg er =
      subst⁻¹ (λ (o : Option Regime). Held R (harvest_in ours o first count m map).memory page (offset_of R address) ⊎ TookAt R address e) eg
      (by (taken R s m known valid b page (offset_of R address) h first count map (harvest_of R first count m map).reply refl))
    where
      by : Held R (harvest_of R first count m map).memory page (offset_of R address) ⊎ (((harvest_of R first count m map).reply ≡ Ok tt) × Takes R m first count map (offset_of R address))
          → Held R (harvest_of R first count m map).memory page (offset_of R address) ⊎ TookAt R address e
      by (inl k) = inl k
      by (inr k) =
          inr (took_at R m (accepted_usable R valid) first count map (offset_of R address) address refl least k.0 k.1 e em ef
          (subst (λ (o : Option Regime). e.reply ≡ harvest_reply (harvest_in ours o first count m map).reply (harvest_in ours o first count m map).map) eg er))

  one_call : (c : Call) → e.made ≡ c → e.reply ≡ (call ours s m c).reply → disturbs c (call ours s m c).reply ≡ false → Held R (call ours s m c).memory page (offset_of R address) ⊎ TookAt R address e
  one_call (set_regime q) em er d = inl (set_held R s m known valid b page (offset_of R address) h q (and_then (first_of (memory_rows (length m) q)) (first_of (setting_rows q))))
  one_call (access a) em er d = inl (in_held R s m known valid b page (offset_of R address) h a s.regime known)
  one_call (store x value) em er d = inl (stored_held R s m known valid b page (offset_of R address) h x value s.regime known d)
  one_call drop_all em er d = inl h
  one_call (harvest first count map) em er d = harvest_step first count map em s.regime known er

-- ---- every list

module _ (F : Functions SessionStruct) (is : Leaving F) (s₀ : SessionStruct) (fresh_start : session_view s₀ ≡ fresh) (m₀ : List ℕ) (b₀ : Bytes m₀) where
  inv : {s : SessionStruct} {m : List ℕ} {past : List Event} → Chain F s₀ m₀ s m past → Inv ours lawful (session_view s) m past
  inv chain = chain_inv F is s₀ fresh_start m₀ b₀ chain

  -- the page's leaf still says dirty, or it was taken
  abbrev Watched : Regime → List ℕ → ℕ → ℕ → List Event → Type 0
  Watched R m page address between = Held R m page (offset_of R address) ⊎ Took R address between

  module _ (R : Regime) (e : Event) (page : ℕ) (w : Wrote R e page) (before : List Event) (known : last_regime before ≡ Some R) (calm : settled before ≡ true) where
    abbrev address : ℕ
    address = w.leaf.address

    -- what the write left
    first_held : {s : SessionStruct} {m : List ℕ} {past : List Event} {c : Call} {x : Handed SessionStruct Reply} (chain : Chain F s₀ m₀ s m past) (made : F s m c x)
        → event c m x ≡ e → past ≡ before → Held R x.memory page (offset_of R address)
    first_held {s} {m} {past} {c} {x} chain made hd tl =
        let i = inv chain in
        let valid = i.valid R (ap last_regime tl ∙ known) in
        let b : Bytes e.found = subst (λ (f : Event). Bytes f.found) hd i.bytes in
        let k : KeepsTo ours before e.made e.reply e.found e.left =
        subst₂ (λ (f : Event) (l : List Event). KeepsTo ours l f.made f.reply f.found f.left) hd tl (inv (more {c = c} {x = x} chain made)).every.0 in
        let k2 : KeepsTo ours before (access w.by) e.reply e.found e.left = subst (λ (d : Call). KeepsTo ours before d e.reply e.found e.left) w.made k in
        let alike : Alike ours R e.found w.by e.reply e.left = settled_access (last_regime before) known (settled before) calm k2.1 in
        let said : uncounted (plainly ours R e.found w.by).reply ≡ answered (success w.answer) 0 = sym alike.same ∙ ap uncounted w.succeeded in
        let g = wrote_plain R e.found b w.by w.writing w.answer said page w.on w.leaf w.modifier in
        subst⁻¹ (λ (l : List ℕ). Held R l page (offset_of R address)) (ap (λ (f : Event). f.left) hd ∙ alike.bytes) g
      where
        settled_access : (o : Option Regime) → o ≡ Some R → (t : Bool) → t ≡ true → AccessIn ours o t w.by e.reply e.found e.left → Alike ours R e.found w.by e.reply e.left
        settled_access o p t q a = subst₂ (λ (o : Option Regime) (t : Bool). AccessIn ours o t w.by e.reply e.found e.left) p q a refl

    -- every call after it
    next_watched : {s : SessionStruct} {m : List ℕ} {past : List Event} {c : Call} {x : Handed SessionStruct Reply} (chain : Chain F s₀ m₀ s m past) → F s m c x
        → (y : Event) (between : List Event) → event c m x ≡ y → past ≡ between ++ e ∷ before → disturbs y.made y.reply ≡ false → Undisturbed between
        → R.pool.address.0 ≤ address → Watched R m page address between → Watched R x.memory page address (y ∷ between)
    next_watched chain made y between hd tl d u least (inr t) = inr (earlier t)
    next_watched {s} {m} {past} {c} {x} chain made y between hd tl d u least (inl h) =
        let i = inv chain in
        let g : last_regime past ≡ Some R = ap last_regime tl ∙ between_regime R e page w between before u ∙ known in
        let v : viewed x ≡ call ours (session_view s) m c = ap viewed (is s m c x made) ∙ viewed_leaves s m c in
        let er : y.reply ≡ (call ours (session_view s) m c).reply = ap (λ (f : Event). f.reply) (sym hd) ∙ ap (λ (t : Stepped). t.reply) v in
        let em : y.made ≡ c = ap (λ (f : Event). f.made) (sym hd) in
        let dd : disturbs c (call ours (session_view s) m c).reply ≡ false = sym (ap (λ (k : Call). disturbs k (call ours (session_view s) m c).reply) em) ∙ sym (ap (disturbs y.made) er) ∙ d in
        told_by_lem (ap (λ (t : Stepped). t.memory) v)
        (one_call R (session_view s) m (i.known ∙ g) (i.valid R g) i.bytes page address least h y (ap (λ (f : Event). f.found) (sym hd)) c em er dd)
      where
        told_by_lem : {l : List ℕ} → x.memory ≡ l → Held R l page (offset_of R address) ⊎ TookAt R address y → Watched R x.memory page address (y ∷ between)
        told_by_lem q (inl k) = inl (subst⁻¹ (λ (l : List ℕ). Held R l page (offset_of R address)) q k)
        told_by_lem q (inr k) = inr (here k)

    never : {A : Type 0} (between : List Event) → [] ≡ between ++ e ∷ before → A
    never [] q = clash (cc)
    never (x ∷ xs) q = clash (cc)

    watch : {s : SessionStruct} {m : List ℕ} {past : List Event} → Chain F s₀ m₀ s m past → (between : List Event) → past ≡ between ++ e ∷ before → Undisturbed between
        → R.pool.address.0 ≤ address → Watched R m page address between
    watch none_yet between q u least = never between q
    watch (more {c = c} {x = x} chain made) [] q u least = inl (first_held {c = c} {x = x} chain made (head_same q) (tail_same q))
    watch (more {c = c} {x = x} chain made) (y ∷ ys) q u least =
        next_watched {c = c} {x = x} chain made y ys (head_same q) (tail_same q) u.0 u.1 least (watch chain ys (tail_same q) u.1 least)

  -- the harvest that covers the page
  accepted_by : (c : Checked) (l map : List ℕ) → harvest_reply c l ≡ harvested map → (c ≡ Ok tt) × (l ≡ map)
  accepted_by (Ok _) l map q = (refl, cc)
  accepted_by (Err x) l map q = clash (cc)

  pub reported_once : {s : SessionStruct} {m : List ℕ} {past : List Event} → Chain F s₀ m₀ s m past → (h e : Event) (between before : List Event) → past ≡ h ∷ between ++ e ∷ before
      → (R : Regime) → last_regime before ≡ Some R → settled before ≡ true → (page : ℕ) (w : Wrote R e page) → Undisturbed between
      → (first count : ℕ) (map : List ℕ) → AcceptedHarvest h first count map → AskedFor first count page → Reported first map page ⊎ Took R w.leaf.address between
  reported_once none_yet h e between before q R known calm page w u first count map hv asked = clash (cc)
  reported_once (more {s = s} {m = m} {past = past} {c = c} {x = x} chain made) h e between before q R known calm page w u first count map hv asked =
      let hd = head_same q in
      let tl = tail_same q in
      let i = inv chain in
      let g : last_regime past ≡ Some R = ap last_regime tl ∙ between_regime R e page w between before u ∙ known in
      let good = accepted_usable R (i.valid R g) in
      let v : viewed x ≡ call ours (session_view s) m c = ap viewed (is s m c x made) ∙ viewed_leaves s m c in
      let cm : c ≡ harvest first count hv.given = ap (λ (f : Event). f.made) hd ∙ hv.made in
      let r : (call ours (session_view s) m (harvest first count hv.given)).reply ≡ harvested map =
      ap (λ (k : Call). (call ours (session_view s) m k).reply) (sym cm) ∙ sym (ap (λ (t : Stepped). t.reply) v) ∙ ap (λ (f : Event). f.reply) hd ∙ hv.reply in
      let under : harvest_reply (harvest_of R first count m hv.given).reply (harvest_of R first count m hv.given).map ≡ harvested map =
      subst (λ (o : Option Regime). harvest_reply (harvest_in ours o first count m hv.given).reply (harvest_in ours o first count m hv.given).map ≡ harvested map) (i.known ∙ g) r in
      let k = accepted_by (harvest_of R first count m hv.given).reply (harvest_of R first count m hv.given).map map under in
      by m k.0 k.1 (watch R e page w before known calm chain between tl u (leaf_least R e.found page good w.leaf))
    where
      by : (m : List ℕ) → (harvest_of R first count m hv.given).reply ≡ Ok tt → (harvest_of R first count m hv.given).map ≡ map → Watched R m page w.leaf.address between
          → Reported first map page ⊎ Took R w.leaf.address between
      by m acc left (inr t) = inr t
      by m acc left (inl held-now) = inl (subst (λ (l : List ℕ). map_bit l (page - first) ≡ true) left (covered R m first count hv.given acc page (offset_of R w.leaf.address) held-now asked))

-- ---- with no harvest in between

unharvested : {A : Type 0} (R : Regime) (address : ℕ) (between : List Event) → Unharvested between → Took R address between → A
unharvested R address [] u t = elim t [ ]
unharvested R address (e ∷ es) u (here t) = differ (sym (ap (λ (c : Call). harvests c e.reply) t.harvest.made ∙ ap is_done t.harvest.reply) ∙ u.0)
unharvested R address (e ∷ es) u (earlier t) = unharvested R address es u.1 t

dropped_at : (xs : List Event) (e : Event) (before : List Event) → StoresDropped (xs ++ e ∷ before) → accesses e.made ≡ true → settled before ≡ true
dropped_at [] e before d a = d.0 a
dropped_at (x ∷ xs) e before d a = dropped_at xs e before d.1 a

-- ---- the claims, of functions that leave what `leaves` says

module _ (F : Functions SessionStruct) (is : Leaving F) (s₀ : SessionStruct) (fresh_start : session_view s₀ ≡ fresh) where
  pub reported_once_of : ReportedOnce F s₀
  reported_once_of m₀ b s m h e between before chain R known calm page w u first count map hv asked =
      reported_once F is s₀ fresh_start m₀ b chain h e between before refl R known calm page w u first count map hv asked

  pub no_page_lost_of : NoPageLost F s₀
  no_page_lost_of m₀ b s m h e between before chain dropped R known page w u n first count map hv asked =
      by (reported_once_of m₀ b s m h e between before chain R known calm page w u first count map hv asked)
    where
      calm : settled before ≡ true
      calm = dropped_at (h ∷ between) e before dropped (ap accesses w.made)

      by : Reported first map page ⊎ Took R w.leaf.address between → Reported first map page
      by (inl r) = r
      by (inr t) = unharvested R w.leaf.address between n t
