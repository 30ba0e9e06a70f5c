-- Rule 3 over any walker that keeps the laws of `Lawful`.
use Prim.Native.Nat.{ℕ, ◌+◌, ◌≤◌, ◌<◌}
use native.Mathlib.Nat.{mod-lt, zero-lt-suc}
use native.Mathlib.Omega.{arith}
use mathlib.Core.Path.{◌≡◌, refl, sym, ap, ap₂, ◌∙◌, subst, subst⁻¹, subst₂, subst₃}
use mathlib.Core.Logic.{◌≢◌}
use mathlib.Core.Bool.{Bool, true, false, ◌&&◌, true≢false, false≢true}
use Rattle.std.proofs.lemmas.Option.{same_Some}
use Rattle.std.specs.Prelude.{Option, None, Some, Ok, Err}
use mathlib.Core.List.{List, [], ◌∷◌, ◌++◌}
use lib.ListN.{length, get_or, set, take, drop, length-set, length-replicate, length-append, length-drop, get_or-replicate}
use lib.Seq.{length-take-le, get_or-set_same, get_or-set_other}
use lib.Dec.{eqb}
use borrow.Author.Tests.{eqb-true, eqb-false, eq-eqb, le-leb}
use Rattle.descriptor.specs.Bytes.{Bytes}
use Rattle.descriptor.specs.Bits.{pick}
use Rattle.descriptor.proofs.Numbers.{bytes_take, bytes_drop, bytes_append}
use Rattle.vmsa.specs.Answers.{Result, fault, number_of, cacheable_in, dirtied_in}
use Rattle.vmsa.specs.Kinds.{writes}
use Rattle.vmsa.specs.declared.Regime.{Regime}
use Rattle.vmsa.specs.declared.Access.{Access}
use Rattle.vmsa.specs.declared.Leaf.{Leaf}
use Rattle.vmsa.specs.declared.Refusal.{Refusal}
use Rattle.checks.specs.Order.{Checked}
use Rattle.walk.specs.Walk.{revalued}
use Rattle.tlb.specs.Replies.{Reply, done, refused, answered, harvested, Told, told, harvest_reply, uncounted, updates, dirties}
use Rattle.checks.specs.Order.{and_then}
use Rattle.tlb.specs.Walker.{Walker, Spot, lost, found, no_regime, Entry, empty, holds, entry_count, entry_of, held_in, Walked, put_word, landed, walk_from, walked, recall, access_held, access_by}
use Rattle.checks.proofs.Rows.{both}
use Rattle.session.specs.Model.{no_entries, held, keep, Session, fresh, Stepped, stay, refusal as refusing, Call, set_regime, access, store, drop_all, harvest, set_by, set_call, drop_call, store_by, store_in, store_call, harvest_in, harvest_to, harvest_call, learn, access_with, access_call, call}
use Rattle.calls.specs.Chains.{Event, event}
use Rattle.rule3.specs.Events.{World, start, next, run, last_regime, settled, Moment, counted, any_count, moment_in, or_earlier, latest}
use Rattle.rule3.specs.Rule3.{plainly, StoredIn, Alike, AccessIn, HarvestIn, KeepsTo, Every, Plainly, Recalled, Remembers, Rule3}
use Rattle.rule3.specs.Lawful.{unless_refused, restamped, Admitted, Lawful}

keep_length : (entries : List Entry) (p : ℕ) (k : Option Leaf) → length (keep entries p k) ≡ length entries
keep_length entries p None = refl
keep_length entries p (Some h) = length-set entries (entry_of p) (holds p h)

entry_lt : (p : ℕ) → entry_of p < entry_count
entry_lt p = mod-lt p (zero-lt-suc 63)

and_false : {A : Type 0} (b : Bool) (x y : A) → pick (b && false) x y ≡ y
and_false true x y = refl
and_false false x y = refl

held_by : (pl : Entry) (p : ℕ) (h : Leaf) → held_in pl p ≡ Some h → pl ≡ holds p h
held_by empty p h q = cc
held_by (holds p' x) p h q = go (eqb p' p) refl q
  where
    go : (b : Bool) → eqb p' p ≡ b → pick b (Some x) None ≡ Some h → holds p' x ≡ holds p h
    go true e k = ap₂ (λ (n : ℕ) (l : Leaf). holds n l) (eqb-true p' p e) (same_Some x h k)
    go false e k = cc

abbrev told_of : Walked → Told Reply
told_of w = told w.reply w.memory

-- the page of an earlier access
abbrev page_at : Option Moment → Option ℕ
page_at None = None
page_at (Some t) = Some t.page

module _ (W : Walker) (L : Lawful W) where
  open W use {memory_check, setting_check, access_check, store_check, offset, page, locate, judge, stamp, word}

  -- ---- a descriptor put into the memory

  put_eq : (R : Regime) (m : List ℕ) (at v : ℕ) → put_word W R m at v ≡ take at m ++ word R v ++ drop (at + 8) m
  unfolding put_word
  put_eq R m at v = ap (λ (n : ℕ). take at m ++ word R v ++ drop (at + n) m) (L.word_length R v)

  put_length : (R : Regime) (m : List ℕ) (at v : ℕ) → at + 8 ≤ length m → length (put_word W R m at v) ≡ length m
  put_length R m at v h =
      ap length (put_eq R m at v) ∙ length-append (take at m ++ word R v) (drop (at + 8) m)
      ∙ rw (length-append (take at m) (word R v), length-take-le at m (let k : at ≤ length m = omega arith in k), L.word_length R v, length-drop (at + 8) m) (omega arith)

  put_bytes : (R : Regime) (m : List ℕ) (at v : ℕ) → Bytes m → Bytes (put_word W R m at v)
  unfolding put_word
  put_bytes R m at v h =
      bytes_append (take at m ++ word R v) (drop (at + length (word R v)) m) (bytes_append (take at m) (word R v) (bytes_take m at h) (L.word_bytes R v))
      (bytes_drop m (at + length (word R v)) h)

  if_bytes : (b : Bool) (R : Regime) (m : List ℕ) (at v : ℕ) → Bytes m → Bytes (pick b (put_word W R m at v) m)
  if_bytes true R m at v h = put_bytes R m at v h
  if_bytes false R m at v h = h

  if_length : (b : Bool) (R : Regime) (m : List ℕ) (at v : ℕ) → at + 8 ≤ length m → length (pick b (put_word W R m at v) m) ≡ length m
  if_length true R m at v h = put_length R m at v h
  if_length false R m at v h = refl

  -- ---- the invariant

  -- a held leaf is the leaf of its page under the regime, and over the memory, of the access that the events name
  record Recorded (len : ℕ) (o : Option Regime) (p : ℕ) (h : Leaf) (t : Moment) : Type 0 where
    page_eq : t.page ≡ p
    regime_eq : o ≡ Some t.regime
    size : length t.left ≡ len
    at : ℕ
    count : ℕ
    here : locate t.regime t.left p ≡ found at h count

  abbrev Matches : ℕ → Option Regime → Entry → Option Moment → Type 0
  Matches len o empty None = Unit {0}
  Matches len o empty (Some t) = ⊥
  Matches len o (holds p h) None = ⊥
  Matches len o (holds p h) (Some t) = Recorded len o p h t

  -- a held leaf still speaks for the leaf that its page reaches
  record Freshly (R : Regime) (m : List ℕ) (p : ℕ) (h : Leaf) : Type 0 where
    at : ℕ
    leaf : Leaf
    count : ℕ
    here : locate R m p ≡ found at leaf count
    agree : L.Agree R h leaf

  -- under the regime of the access that filled the entry
  abbrev FreshEntry : List ℕ → Entry → Option Moment → Type 0
  FreshEntry m empty t = Unit {0}
  FreshEntry m (holds p h) None = Unit {0}
  FreshEntry m (holds p h) (Some t) = Freshly t.regime m p h

  pub record Inv (s : Session) (m : List ℕ) (past : List Event) : Type 0 where
    sized : length s.entries ≡ entry_count
    pub known : s.regime ≡ last_regime past
    pub valid : (R : Regime) → last_regime past ≡ Some R → setting_check R ≡ Ok tt
    matches : (i : ℕ) → i < entry_count → Matches (length m) (last_regime past) (get_or s.entries i empty) (latest W counted past i)
    last : (i : ℕ) → i < entry_count → page_at (latest W any_count past i) ≡ page_at (latest W counted past i)
    fresh_in : settled past ≡ true → (i : ℕ) → i < entry_count → FreshEntry m (get_or s.entries i empty) (latest W counted past i)
    pub bytes : Bytes m
    pub every : Every W past

  abbrev pub Then : List ℕ → List Event → Call → Stepped → Type 0
  Then m past c r = Inv r.session r.memory (event c m r ∷ past)

  -- ---- one call

  -- a call that keeps regime and entries, and that the events do not name
  carry : {s : Session} {m m' : List ℕ} {past : List Event} (e : Event) → Inv s m past
      → last_regime (e ∷ past) ≡ last_regime past
      → ((i : ℕ) → latest W counted (e ∷ past) i ≡ latest W counted past i)
      → ((i : ℕ) → i < entry_count → page_at (latest W any_count (e ∷ past) i) ≡ page_at (latest W counted past i))
      → length m' ≡ length m
      → Bytes m'
      → (settled (e ∷ past) ≡ true → (i : ℕ) → i < entry_count → FreshEntry m' (get_or s.entries i empty) (latest W counted past i))
      → KeepsTo W past e.made e.reply e.found e.left
      → Inv s m' (e ∷ past)
  carry {s} {m} {m'} {past} e I hr hl ha hs hb hf hk =
      record {
        sized = I.sized;
        known = I.known ∙ sym hr;
        valid = λ R q. I.valid R (sym hr ∙ q);
        matches = λ i lt.
            subst₃ (λ (n : ℕ) (o : Option Regime) (t : Option Moment). Matches n o (get_or s.entries i empty) t) (sym hs) (sym hr) (sym (hl i)) (I.matches i lt);
        last = λ i lt. ha i lt ∙ ap page_at (sym (hl i));
        fresh_in = λ st i lt. subst⁻¹ (λ (t : Option Moment). FreshEntry m' (get_or s.entries i empty) t) (hl i) (hf st i lt);
        bytes = hb;
        every = (hk, I.every);
      }

  -- a call that empties all entries
  emptied : {m : List ℕ} {past : List Event} (o : Option Regime) (e : Event) → Bytes m → Every W past
      → o ≡ last_regime (e ∷ past)
      → ((R : Regime) → o ≡ Some R → setting_check R ≡ Ok tt)
      → ((i : ℕ) → latest W counted (e ∷ past) i ≡ None)
      → ((i : ℕ) → latest W any_count (e ∷ past) i ≡ None)
      → KeepsTo W past e.made e.reply e.found e.left
      → Inv (record { regime = o; entries = no_entries }) m (e ∷ past)
  emptied {m} {past} o e hb ev hr hv hc ha hk =
      record {
        sized = length-replicate entry_count empty;
        known = hr;
        valid = λ R q. hv R (hr ∙ q);
        matches = λ i lt.
            subst₂ (λ (pl : Entry) (t : Option Moment). Matches (length m) (last_regime (e ∷ past)) pl t)
            (sym (get_or-replicate entry_count i empty empty lt)) (sym (hc i)) tt;
        last = λ i lt. ap page_at (ha i ∙ sym (hc i));
        fresh_in = λ st i lt. subst⁻¹ (λ (pl : Entry). FreshEntry m pl (latest W counted (e ∷ past) i)) (get_or-replicate entry_count i empty empty lt) tt;
        bytes = hb;
        every = (hk, ev);
      }

  module _ (s : Session) (m : List ℕ) (past : List Event) (I : Inv s m past) where
    step_set : (R : Regime) → Then m past (set_regime R) (set_call W s m R)
    step_set R = go (and_then (memory_check R (length m)) (setting_check R)) refl
      where
        go : (y : Checked) → and_then (memory_check R (length m)) (setting_check R) ≡ y → Then m past (set_regime R) (set_by W s m R y)
        go (Ok _) q =
            emptied (Some R) (record { made = set_regime R; reply = done; found = m; left = m }) I.bytes I.every refl
            (λ S e. subst (λ (X : Regime). setting_check X ≡ Ok tt) (same_Some R S e) (both (memory_check R (length m)) (setting_check R) q).1)
            (λ i. refl) (λ i. refl) refl
        go (Err x) q =
            carry (record { made = set_regime R; reply = refused (number_of x); found = m; left = m }) I refl (λ i. refl) I.last refl I.bytes I.fresh_in refl

    step_drop : Then m past drop_all (drop_call W s m)
    step_drop =
        emptied s.regime (record { made = drop_all; reply = done; found = m; left = m }) I.bytes I.every I.known
        (λ R q. I.valid R (sym I.known ∙ q)) (λ i. refl) (λ i. refl) refl

    step_store : (A v : ℕ) → Then m past (store A v) (store_call W s m A v)
    step_store A v = go s.regime refl
      where
        refusal : (k : ℕ) → Then m past (store A v) (stay s (refusing m k))
        refusal k =
            carry (record { made = store A v; reply = refused k; found = m; left = m }) I refl (λ i. refl) I.last refl I.bytes I.fresh_in refl

        at : (R : Regime) → s.regime ≡ Some R → (y : Checked) → and_then (memory_check R (length m)) (store_check R A) ≡ y
            → Then m past (store A v) (stay s (store_by W R m A v y))
        at R q (Err x) e = refusal (number_of x)
        at R q (Ok _) e =
            let b = both (memory_check R (length m)) (store_check R A) e in
            let h : offset R A + 8 ≤ length m = L.room R (length m) A b.0 b.1 in
            carry (record { made = store A v; reply = done; found = m; left = put_word W R m (offset R A) v }) I refl (λ i. refl) I.last
            (put_length R m (offset R A) v h) (put_bytes R m (offset R A) v I.bytes) (λ st. absurd (false≢true st))
            (subst (λ (o : Option Regime). StoredIn W o A v m (put_word W R m (offset R A) v)) (sym q ∙ I.known)
            (record { room = h; bytes = put_eq R m (offset R A) v }))

        go : (x : Option Regime) → s.regime ≡ x → Then m past (store A v) (stay s (store_in W x m A v))
        go None q = refusal no_regime
        go (Some R) q = at R q (and_then (memory_check R (length m)) (store_check R A)) refl

    step_harvest : (first count : ℕ) (map : List ℕ) → Then m past (harvest first count map) (harvest_call W s m first count map)
    step_harvest first count map = go s.regime refl
      where
        left : Regime → List ℕ
        left R = (W.harvest R first count m map).memory

        filled : Regime → List ℕ
        filled R = (W.harvest R first count m map).map

        plainly_so : (R : Regime) → s.regime ≡ Some R → (y : Checked) → (W.harvest R first count m map).reply ≡ y
            → HarvestIn W (last_regime past) first count map m (harvest_reply y (filled R)) (left R)
        plainly_so R q y e =
            subst (λ (o : Option Regime). HarvestIn W o first count map m (harvest_reply y (filled R)) (left R)) (sym q ∙ I.known)
            (record { same = ap (λ (x : Checked). harvest_reply x (filled R)) (sym e); bytes = refl })

        at : (R : Regime) → s.regime ≡ Some R → (y : Checked) → (W.harvest R first count m map).reply ≡ y
            → Then m past (harvest first count map) (harvest_to W s (record { reply = y; memory = left R; map = filled R }))
        at R q (Ok _) e =
            emptied s.regime (record { made = harvest first count map; reply = harvested (filled R); found = m; left = left R }) (L.harvest_bytes R first count m map I.bytes) I.every I.known
            (λ S z. I.valid S (sym I.known ∙ z)) (λ i. refl) (λ i. refl) (tt, plainly_so R q (Ok tt) e)
        at R q (Err x) e =
            let same = L.harvest_kept R first count m map x e in
            carry (record { made = harvest first count map; reply = refused (number_of x); found = m; left = left R }) I refl (λ i. refl) I.last
            (ap length same) (subst⁻¹ Bytes same I.bytes)
            (λ st i lt. subst⁻¹ (λ (l : List ℕ). FreshEntry l (get_or s.entries i empty) (latest W counted past i)) same (I.fresh_in st i lt))
            (same, plainly_so R q (Err x) e)

        go : (x : Option Regime) → s.regime ≡ x → Then m past (harvest first count map) (harvest_to W s (harvest_in W x first count m map))
        go None q =
            carry (record { made = harvest first count map; reply = refused no_regime; found = m; left = m }) I refl (λ i. refl) I.last refl I.bytes I.fresh_in
            (refl, subst (λ (o : Option Regime). HarvestIn W o first count map m (refused no_regime) m) (sym q ∙ I.known) refl)
        go (Some R) q = at R q (W.harvest R first count m map).reply refl

    -- ---- an access

    module _ (a : Access) where
      refusal : (k : ℕ) → AccessIn W (last_regime past) (settled past) a (refused k) m m → Then m past (access a) (stay s (refusing m k))
      refusal k h =
          carry (record { made = access a; reply = refused k; found = m; left = m }) I refl (λ i. refl) I.last refl I.bytes I.fresh_in (refl, h)

      module _ (R : Regime) (q : last_regime past ≡ Some R) where
        -- the plain walk, once the regime was accepted
        plain_is : (m' : List ℕ) (y : Checked) → and_then (memory_check R (length m')) (access_check R a) ≡ y
            → plainly W R m' a ≡ unless_refused y m' (walked W R m' a)
        plain_is m' y e =
            L.plain_walk R m' a
            ∙ ap (λ (x : Checked). unless_refused (and_then (memory_check R (length m')) (and_then x (access_check R a))) m' (walked W R m' a)) (I.valid R q)
            ∙ ap (λ (x : Checked). unless_refused x m' (walked W R m' a)) e

        alike : (w : Told Reply) (r : Reply) (left : List ℕ) → plainly W R m a ≡ w → uncounted r ≡ uncounted w.reply → left ≡ w.memory
            → AccessIn W (last_regime past) (settled past) a r m left
        alike w r left e hr hm =
            subst⁻¹ (λ (o : Option Regime). AccessIn W o (settled past) a r m left) q
            (λ st. record { same = hr ∙ sym (ap (λ (x : Told Reply). uncounted x.reply) e); bytes = hm ∙ sym (ap (λ (x : Told Reply). x.memory) e) })

        abbrev seen : Result → ℕ → List ℕ → Event
        seen x k left = record { made = access a; reply = answered x k; found = m; left = left }

        named : (ok : ℕ → Bool) (x : Result) (k : ℕ) (left : List ℕ) → (cacheable_in x && ok k) ≡ true → (i : ℕ)
            → latest W ok (seen x k left ∷ past) i
            ≡ pick (eqb (entry_of (page R a)) i) (Some (record { regime = R; page = page R a; left = left })) (latest W ok past i)
        named ok x k left h i =
            ap (λ (b : Bool). or_earlier i (pick b (moment_in W (last_regime past) a left) None) (latest W ok past i)) h
            ∙ ap (λ (z : Option Regime). or_earlier i (moment_in W z a left) (latest W ok past i)) q

        unnamed : (ok : ℕ → Bool) (x : Result) (k : ℕ) (left : List ℕ) → (cacheable_in x && ok k) ≡ false → (i : ℕ)
            → latest W ok (seen x k left ∷ past) i ≡ latest W ok past i
        unnamed ok x k left h i = ap (λ (b : Bool). or_earlier i (pick b (moment_in W (last_regime past) a left) None) (latest W ok past i)) h

        -- a leaf that was reached: what the marks do to the other entries
        module _ (at : ℕ) (u : Leaf) (n : ℕ) (e : locate R m (page R a) ≡ found at u n)
            (y : and_then (memory_check R (length m)) (access_check R a) ≡ Ok tt) where
          abbrev o : Result
          o = judge R u a

          abbrev m' : List ℕ
          m' = pick (updates o) (put_word W R m at (stamp o u.value)) m

          abbrev h' : Leaf
          h' = revalued u (stamp o u.value)

          sound : Admitted W R m
          sound = record { pool = (both (memory_check R (length m)) (access_check R a) y).0; regime = I.valid R q; bytes = I.bytes }

          room : at + 8 ≤ length m
          room = L.leaf_room R m sound (page R a) e

          m'_bytes : Bytes m'
          m'_bytes = if_bytes (updates o) R m at (stamp o u.value) I.bytes

          -- the leaf as the walk left it
          stays : locate R m' (page R a) ≡ found at h' n
          stays = go (updates o) refl
            where
              go : (b : Bool) → updates o ≡ b → locate R (pick b (put_word W R m at (stamp o u.value)) m) (page R a) ≡ found at h' n
              go true hb =
                  L.marks R m sound (page R a) a e hb (page R a) ∙ ap (restamped at (stamp o u.value)) e
                  ∙ ap (λ (b : Bool). found at (pick b h' u) n) (eq-eqb at at refl)
              go false hb = e ∙ ap (λ (v : ℕ). found at (revalued u v) n) (sym (L.unmarked o u.value hb))

          fresh_on : (p : ℕ) (h : Leaf) → Freshly R m p h → Freshly R m' p h
          fresh_on p h f = go (updates o) refl
            where
              go₂ : updates o ≡ true → (b : Bool) → eqb f.at at ≡ b → Freshly R (put_word W R m at (stamp o u.value)) p h
              go₂ hb true k =
                  let same : f.at ≡ at = eqb-true f.at at k in
                  let lv : u.value ≡ f.leaf.value = L.one R m (page R a) p e (f.here ∙ ap (λ (x : ℕ). found x f.leaf f.count) same) in
                  record {
                    at = f.at;
                    leaf = revalued f.leaf (stamp o u.value);
                    count = f.count;
                    here =
                        L.marks R m sound (page R a) a e hb p ∙ ap (restamped at (stamp o u.value)) f.here
                        ∙ ap (λ (b : Bool). found f.at (pick b (revalued f.leaf (stamp o u.value)) f.leaf) f.count) k;
                    agree = L.agree_mark R h f.leaf u a f.agree lv;
                  }
              go₂ hb false k =
                  record {
                    at = f.at;
                    leaf = f.leaf;
                    count = f.count;
                    here =
                        L.marks R m sound (page R a) a e hb p ∙ ap (restamped at (stamp o u.value)) f.here
                        ∙ ap (λ (b : Bool). found f.at (pick b (revalued f.leaf (stamp o u.value)) f.leaf) f.count) k;
                    agree = f.agree;
                  }

              go : (b : Bool) → updates o ≡ b → Freshly R (pick b (put_word W R m at (stamp o u.value)) m) p h
              go true hb = go₂ hb (eqb f.at at) refl
              go false hb = f

          fresh_place : (pl : Entry) (t : Option Moment) → Matches (length m) (last_regime past) pl t → FreshEntry m pl t → FreshEntry m' pl t
          fresh_place empty t M f = tt
          fresh_place (holds p h) None M f = tt
          fresh_place (holds p h) (Some t) M f =
              let rr : t.regime ≡ R = same_Some t.regime R (sym M.regime_eq ∙ q) in
              subst⁻¹ (λ (X : Regime). Freshly X m' p h) rr (fresh_on p h (subst (λ (X : Regime). Freshly X m p h) rr f))

          abbrev t' : Moment
          t' = record { regime = R; page = page R a; left = m' }

          abbrev pl' : List Entry
          pl' = set s.entries (entry_of (page R a)) (holds (page R a) h')

          pl'_same : get_or pl' (entry_of (page R a)) empty ≡ holds (page R a) h'
          pl'_same =
              get_or-set_same s.entries (entry_of (page R a)) (holds (page R a) h') empty
              (subst⁻¹ (λ (k : ℕ). entry_of (page R a) < k) I.sized (entry_lt (page R a)))

          pl'_other : (i : ℕ) → eqb (entry_of (page R a)) i ≡ false → get_or pl' i empty ≡ get_or s.entries i empty
          pl'_other i k =
              get_or-set_other s.entries (entry_of (page R a)) i (holds (page R a) h') empty (λ z. eqb-false (entry_of (page R a)) i k (sym z))

          -- the walk fills its place
          filled : cacheable_in o ≡ true → KeepsTo W past (access a) (answered o n) m m'
              → Inv (record { regime = s.regime; entries = pl' }) m' (seen o n m' ∷ past)
          filled hb hk =
              record {
                sized = length-set s.entries (entry_of (page R a)) (holds (page R a) h') ∙ I.sized;
                known = I.known;
                valid = I.valid;
                matches = λ i lt. match i lt (eqb (entry_of (page R a)) i) refl;
                last = λ i lt. ends i lt (eqb (entry_of (page R a)) i) refl;
                fresh_in = λ st i lt. anew st i lt (eqb (entry_of (page R a)) i) refl;
                bytes = m'_bytes;
                every = (hk, I.every);
              }
            where
              c₁ : (cacheable_in o && counted n) ≡ true
              c₁ = ap₂ (λ (x y : Bool). x && y) hb (le-leb 1 n (L.reads R m (page R a) e))

              c₂ : (cacheable_in o && any_count n) ≡ true
              c₂ = ap (λ (x : Bool). x && true) hb

              match : (i : ℕ) → i < entry_count → (b : Bool) → eqb (entry_of (page R a)) i ≡ b
                  → Matches (length m') (last_regime past) (get_or pl' i empty) (latest W counted (seen o n m' ∷ past) i)
              match i lt true k =
                  subst₂ (λ (pl : Entry) (t : Option Moment). Matches (length m') (last_regime past) pl t)
                  (sym (ap (λ (j : ℕ). get_or pl' j empty) (sym (eqb-true (entry_of (page R a)) i k)) ∙ pl'_same))
                  (sym (named counted o n m' c₁ i ∙ ap (λ (b : Bool). pick b (Some t') (latest W counted past i)) k))
                  (record { page_eq = refl; regime_eq = q; size = refl; at = at; count = n; here = stays })
              match i lt false k =
                  subst₃ (λ (z : ℕ) (pl : Entry) (t : Option Moment). Matches z (last_regime past) pl t)
                  (sym (if_length (updates o) R m at (stamp o u.value) room)) (sym (pl'_other i k))
                  (sym (named counted o n m' c₁ i ∙ ap (λ (b : Bool). pick b (Some t') (latest W counted past i)) k)) (I.matches i lt)

              ends : (i : ℕ) → i < entry_count → (b : Bool) → eqb (entry_of (page R a)) i ≡ b
                  → page_at (latest W any_count (seen o n m' ∷ past) i) ≡ page_at (latest W counted (seen o n m' ∷ past) i)
              ends i lt true k =
                  ap page_at (named any_count o n m' c₂ i ∙ ap (λ (b : Bool). pick b (Some t') (latest W any_count past i)) k
                  ∙ sym (named counted o n m' c₁ i ∙ ap (λ (b : Bool). pick b (Some t') (latest W counted past i)) k))
              ends i lt false k =
                  ap page_at (named any_count o n m' c₂ i ∙ ap (λ (b : Bool). pick b (Some t') (latest W any_count past i)) k)
                  ∙ I.last i lt
                  ∙ sym (ap page_at (named counted o n m' c₁ i ∙ ap (λ (b : Bool). pick b (Some t') (latest W counted past i)) k))

              anew : settled past ≡ true → (i : ℕ) → i < entry_count → (b : Bool) → eqb (entry_of (page R a)) i ≡ b
                  → FreshEntry m' (get_or pl' i empty) (latest W counted (seen o n m' ∷ past) i)
              anew st i lt true k =
                  subst₂ (λ (pl : Entry) (t : Option Moment). FreshEntry m' pl t)
                  (sym (ap (λ (j : ℕ). get_or pl' j empty) (sym (eqb-true (entry_of (page R a)) i k)) ∙ pl'_same))
                  (sym (named counted o n m' c₁ i ∙ ap (λ (b : Bool). pick b (Some t') (latest W counted past i)) k))
                  (record { at = at; leaf = h'; count = n; here = stays; agree = L.agree_self R u a hb })
              anew st i lt false k =
                  subst₂ (λ (pl : Entry) (t : Option Moment). FreshEntry m' pl t) (sym (pl'_other i k))
                  (sym (named counted o n m' c₁ i ∙ ap (λ (b : Bool). pick b (Some t') (latest W counted past i)) k))
                  (fresh_place (get_or s.entries i empty) (latest W counted past i) (I.matches i lt) (I.fresh_in st i lt))

          -- the walk leaves its place alone
          passed : cacheable_in o ≡ false → KeepsTo W past (access a) (answered o n) m m' → Inv s m' (seen o n m' ∷ past)
          passed hb hk =
              carry (seen o n m') I refl (unnamed counted o n m' (ap (λ (x : Bool). x && counted n) hb))
              (λ i lt. ap page_at (unnamed any_count o n m' (ap (λ (x : Bool). x && true) hb) i) ∙ I.last i lt)
              (if_length (updates o) R m at (stamp o u.value) room) m'_bytes
              (λ st i lt. fresh_place (get_or s.entries i empty) (latest W counted past i) (I.matches i lt) (I.fresh_in st i lt))
              hk

          reached : plainly W R m a ≡ told_of (walked W R m a) → Then m past (access a) (learn W s (page R a) (landed W R m at u n o))
          reached pe = go (cacheable_in o) refl
            where
              hk : KeepsTo W past (access a) (answered o n) m m'
              hk = (tt, alike (told_of (landed W R m at u n o)) (answered o n) m' (pe ∙ ap (λ (x : Spot). told_of (walk_from W R m a x)) e) refl refl)

              go : (b : Bool) → cacheable_in o ≡ b
                  → Inv (record { regime = s.regime; entries = keep s.entries (page R a) (pick b (Some h') None) }) m' (seen o n m' ∷ past)
              go true hb = filled hb hk
              go false hb = passed hb hk

        -- an access that walks
        walks : and_then (memory_check R (length m)) (access_check R a) ≡ Ok tt → Then m past (access a) (learn W s (page R a) (walked W R m a))
        walks y = go (locate R m (page R a)) refl
          where
            go : (l : Spot) → locate R m (page R a) ≡ l → Then m past (access a) (learn W s (page R a) (walk_from W R m a l))
            go (lost c l n) e =
                carry (seen (fault (record { code = c; level = l; cacheable = false; reads = 0 })) n m) I refl (λ i. refl) I.last refl I.bytes I.fresh_in (
                  tt,
                  alike (told_of (walk_from W R m a (lost c l n))) (answered (fault (record { code = c; level = l; cacheable = false; reads = 0 })) n) m
                      (plain_is m (Ok tt) y ∙ ap (λ (x : Spot). told_of (walk_from W R m a x)) e) refl refl,
                )
            go (found at u n) e = reached at u n e y (plain_is m (Ok tt) y)

        page_at_lem : (pl : Entry) (t : Option Moment) (p : ℕ) (h : Leaf) → Matches (length m) (last_regime past) pl t → pl ≡ holds p h
            → Some p ≡ page_at t
        page_at_lem empty None p h M z = cc
        page_at_lem empty (Some t) p h M z = absurd M
        page_at_lem (holds p' x) None p h M z = absurd M
        page_at_lem (holds p' x) (Some t) p h M z = let e = M.page_eq in cc

        -- a held leaf that is fresh, under the regime last accepted
        fresh_held : (pl : Entry) (t : Option Moment) (p : ℕ) (h : Leaf) → Matches (length m) (last_regime past) pl t → FreshEntry m pl t → pl ≡ holds p h → Freshly R m p h
        fresh_held empty t p h M f z = absurd (let y : ◌≡◌ {A = ℕ} 0 1 = cc in omega arith)
        fresh_held (holds p' x) None p h M f z = absurd M
        fresh_held (holds p' x) (Some t) p h M f z =
            let rr : t.regime ≡ R = same_Some t.regime R (sym M.regime_eq ∙ q) in
            let pp : p' ≡ p = cc in
            let hh : x ≡ h = cc in
            subst₃ (λ (X : Regime) (n : ℕ) (l : Leaf). Freshly X m n l) rr pp hh f

        -- an access that is answered from its entry
        hit : and_then (memory_check R (length m)) (access_check R a) ≡ Ok tt → (h : Leaf) → held s.entries (page R a) ≡ Some h
            → dirtied_in (judge R h a) ≡ false → Then m past (access a) (record { session = s; memory = m; reply = answered (judge R h a) 0 })
        hit y h hh hd =
            carry (seen x 0 m) I refl (unnamed counted x 0 m (and_no (cacheable_in x))) (λ i lt. ends i lt (cacheable_in x) refl) refl I.bytes I.fresh_in (tt, good)
          where
            x : Result
            x = judge R h a

            and_no : (b : Bool) → (b && false) ≡ false
            and_no true = refl
            and_no false = refl

            is : get_or s.entries (entry_of (page R a)) empty ≡ holds (page R a) h
            is = held_by (get_or s.entries (entry_of (page R a)) empty) (page R a) h hh

            ends₂ : (i : ℕ) → i < entry_count → cacheable_in x ≡ true → (b : Bool) → eqb (entry_of (page R a)) i ≡ b
                → page_at (latest W any_count (seen x 0 m ∷ past) i) ≡ page_at (latest W counted past i)
            ends₂ i lt hb true k =
                ap page_at
                (named any_count x 0 m (ap (λ (b : Bool). b && true) hb) i
                ∙ ap (λ (b : Bool). pick b (Some (record { regime = R; page = page R a; left = m })) (latest W any_count past i)) k)
                ∙ page_at_lem (get_or s.entries i empty) (latest W counted past i) (page R a) h (I.matches i lt)
                (ap (λ (j : ℕ). get_or s.entries j empty) (sym (eqb-true (entry_of (page R a)) i k)) ∙ is)
            ends₂ i lt hb false k =
                ap page_at
                (named any_count x 0 m (ap (λ (b : Bool). b && true) hb) i
                ∙ ap (λ (b : Bool). pick b (Some (record { regime = R; page = page R a; left = m })) (latest W any_count past i)) k)
                ∙ I.last i lt

            ends : (i : ℕ) → i < entry_count → (b : Bool) → cacheable_in x ≡ b
                → page_at (latest W any_count (seen x 0 m ∷ past) i) ≡ page_at (latest W counted past i)
            ends i lt true hb = ends₂ i lt hb (eqb (entry_of (page R a)) i) refl
            ends i lt false hb = ap page_at (unnamed any_count x 0 m (ap (λ (b : Bool). b && true) hb) i) ∙ I.last i lt

            same : Freshly R m (page R a) h → Alike W R m a (answered x 0) m
            same f =
                let e : plainly W R m a ≡ told_of (landed W R m f.at f.leaf f.count x) =
                plain_is m (Ok tt) y ∙ ap (λ (l : Spot). told_of (walk_from W R m a l)) f.here
                ∙ ap (λ (o : Result). told_of (landed W R m f.at f.leaf f.count o)) (L.agree_same R h f.leaf a f.agree hd)
                in
                record {
                  same = sym (ap (λ (w : Told Reply). uncounted w.reply) e);
                  bytes =
                      sym (ap (λ (w : Told Reply). w.memory) e
                      ∙ ap (λ (b : Bool). pick b (put_word W R m f.at (stamp x f.leaf.value)) m) (L.agree_still R h f.leaf a f.agree hd));
                }

            good : AccessIn W (last_regime past) (settled past) a (answered x 0) m m
            good =
                subst⁻¹ (λ (z : Option Regime). AccessIn W z (settled past) a (answered x 0) m m) q
                (λ st. same (fresh_held (get_or s.entries (entry_of (page R a)) empty) (latest W counted past (entry_of (page R a))) (page R a) h
                (I.matches (entry_of (page R a)) (entry_lt (page R a))) (I.fresh_in st (entry_of (page R a)) (entry_lt (page R a))) is))

        unrefused : and_then (memory_check R (length m)) (access_check R a) ≡ Ok tt → Then m past (access a) (learn W s (page R a) (access_held W R m a (held s.entries (page R a))))
        unrefused y = go (held s.entries (page R a)) refl
          where
            go₂ : (h : Leaf) → held s.entries (page R a) ≡ Some h → (b : Bool) → dirtied_in (judge R h a) ≡ b
                → Then m past (access a) (learn W s (page R a) (pick b (walked W R m a) (record { reply = answered (judge R h a) 0; memory = m; kept = None })))
            go₂ h hh true hd = walks y
            go₂ h hh false hd = hit y h hh hd

            go : (x : Option Leaf) → held s.entries (page R a) ≡ x → Then m past (access a) (learn W s (page R a) (access_held W R m a x))
            go None hh = walks y
            go (Some h) hh = go₂ h hh (dirtied_in (judge R h a)) refl

        ruled : (y : Checked) → and_then (memory_check R (length m)) (access_check R a) ≡ y → Then m past (access a) (learn W s (page R a) (access_by W R m a (held s.entries (page R a)) y))
        ruled (Ok _) y = unrefused y
        ruled (Err k) y = refusal (number_of k) (alike (unless_refused (Err k) m (walked W R m a)) (refused (number_of k)) m (plain_is m (Err k) y) refl refl)

    step_access : (a : Access) → Then m past (access a) (access_call W s m a)
    step_access a = go s.regime refl
      where
        go : (x : Option Regime) → s.regime ≡ x → Then m past (access a) (access_with W s m a x)
        go None z = refusal a no_regime (subst⁻¹ (λ (o : Option Regime). AccessIn W o (settled past) a (refused no_regime) m m) (sym I.known ∙ z) refl)
        go (Some R) z = ruled a R (sym I.known ∙ z) (and_then (memory_check R (length m)) (access_check R a)) refl

    pub step : (c : Call) → Then m past c (call W s m c)
    step (set_regime R) = step_set R
    step (access a) = step_access a
    step (store A v) = step_store A v
    step drop_all = step_drop
    step (harvest first count map) = step_harvest first count map

    -- ---- after the list: a new access, over any bytes of the same length

    module _ (a : Access) (R : Regime) (q : last_regime past ≡ Some R) (m₁ : List ℕ) (size : length m₁ ≡ length m) where
      abbrev p : ℕ
      p = page R a

      plain_told : (y : Checked) → and_then (memory_check R (length m₁)) (access_check R a) ≡ y
          → Plainly W R m₁ a (unless_refused y m₁ (walked W R m₁ a)).reply (unless_refused y m₁ (walked W R m₁ a)).memory
      plain_told y e =
          record { same = sym (ap (λ (w : Told Reply). w.reply) (plain_is a R q m₁ y e)); bytes = sym (ap (λ (w : Told Reply). w.memory) (plain_is a R q m₁ y e)) }

      -- what the entry's moment says of the new access: of its own page, or of another
      record Spoken (t : Moment) (reply : Reply) (left : List ℕ) : Type 0 where
        own : t.page ≡ p → Recalled W t R m₁ a reply left
        other : t.page ≢ p → Plainly W R m₁ a reply left

      abbrev SpokenIn : Option Moment → Reply → List ℕ → Type 0
      SpokenIn None reply left = Plainly W R m₁ a reply left
      SpokenIn (Some t) reply left = Spoken t reply left

      module _ (p' : ℕ) (h : Leaf) (t : Moment) (M : Recorded (length m) (last_regime past) p' h t) where
        -- what the plain walk gave the access over the memory of then
        then_is : t.page ≡ p → (y : Checked) → and_then (memory_check R (length m₁)) (access_check R a) ≡ y
            → plainly W t.regime t.left a ≡ unless_refused y t.left (landed W R t.left M.at h M.count (judge R h a))
        then_is hp y e =
            let rr : t.regime ≡ R = same_Some t.regime R (sym M.regime_eq ∙ q) in
            let le : locate R t.left p ≡ found M.at h M.count =
            subst₂ (λ (S : Regime) (x : ℕ). locate S t.left x ≡ found M.at h M.count) rr (sym M.page_eq ∙ hp) M.here
            in
            ap (λ (S : Regime). plainly W S t.left a) rr
            ∙ plain_is a R q t.left y (ap (λ (n : ℕ). and_then (memory_check R n) (access_check R a)) (M.size ∙ sym size) ∙ e)
            ∙ ap (λ (l : Spot). unless_refused y t.left (walk_from W R t.left a l)) le

        spoken_refused : (x : Refusal) → and_then (memory_check R (length m₁)) (access_check R a) ≡ Err x → Spoken t (refused (number_of x)) m₁
        spoken_refused x e =
            record {
              own = λ hp. record {
                one = λ hd. rw (ap (λ (w : Told Reply). w.reply) (then_is hp (Err x) e)) refl;
                still = λ hd. refl;
                again = λ hd. plain_told (Err x) e;
              };
              other = λ hp. plain_told (Err x) e;
            }

        -- another page's entry
        spoken_other : p' ≢ p → and_then (memory_check R (length m₁)) (access_check R a) ≡ Ok tt → Spoken t (walked W R m₁ a).reply (walked W R m₁ a).memory
        spoken_other ne e = record { own = λ hp. absurd (ne (sym M.page_eq ∙ hp)); other = λ hp. plain_told (Ok tt) e }

        spoken_own : p' ≡ p → and_then (memory_check R (length m₁)) (access_check R a) ≡ Ok tt → (b : Bool) → dirtied_in (judge R h a) ≡ b
            → (r : Walked) → r ≡ pick b (walked W R m₁ a) (record { reply = answered (judge R h a) 0; memory = m₁; kept = None })
            → Spoken t r.reply r.memory
        spoken_own hp' e true hd r hr =
            let z : Plainly W R m₁ a r.reply r.memory =
            subst⁻¹ (λ (x : Walked). Plainly W R m₁ a x.reply x.memory) hr (plain_told (Ok tt) e)
            in
            let no : t.page ≡ p → dirties (plainly W t.regime t.left a).reply ≡ false → ⊥ =
            λ hp k. true≢false (sym hd ∙ sym (ap (λ (w : Told Reply). dirties w.reply) (then_is hp (Ok tt) e)) ∙ k)
            in
            record { own = λ hp. record { one = λ k. absurd (no hp k); still = λ k. absurd (no hp k); again = λ k. z }; other = λ hp. z }
        spoken_own hp' e false hd r hr =
            record {
              own = λ hp. record {
                one = λ k. ap (λ (x : Walked). x.reply) hr ∙ sym (ap (λ (w : Told Reply). uncounted w.reply) (then_is hp (Ok tt) e));
                still = λ k. ap (λ (x : Walked). x.memory) hr;
                again = λ k. absurd (false≢true (sym hd ∙ sym (ap (λ (w : Told Reply). dirties w.reply) (then_is hp (Ok tt) e)) ∙ k));
              };
              other = λ hp. absurd (hp (M.page_eq ∙ hp'));
            }

        spoken_held : and_then (memory_check R (length m₁)) (access_check R a) ≡ Ok tt → (b : Bool) → eqb p' p ≡ b
            → Spoken t (access_held W R m₁ a (pick b (Some h) None)).reply (access_held W R m₁ a (pick b (Some h) None)).memory
        spoken_held e true k = spoken_own (eqb-true p' p k) e (dirtied_in (judge R h a)) refl (recall W R m₁ a (judge R h a)) refl
        spoken_held e false k = spoken_other (eqb-false p' p k) e

      spoken_by : (pl : Entry) (t : Option Moment) → Matches (length m) (last_regime past) pl t → and_then (memory_check R (length m₁)) (access_check R a) ≡ Ok tt
          → SpokenIn t (access_held W R m₁ a (held_in pl p)).reply (access_held W R m₁ a (held_in pl p)).memory
      spoken_by empty None M e = plain_told (Ok tt) e
      spoken_by empty (Some t) M e = absurd M
      spoken_by (holds p' h) None M e = absurd M
      spoken_by (holds p' h) (Some t) M e = spoken_held p' h t M e (eqb p' p) refl

      refused_by : (pl : Entry) (t : Option Moment) → Matches (length m) (last_regime past) pl t → (x : Refusal)
          → and_then (memory_check R (length m₁)) (access_check R a) ≡ Err x → SpokenIn t (refused (number_of x)) m₁
      refused_by empty None M x e = plain_told (Err x) e
      refused_by empty (Some t) M x e = absurd M
      refused_by (holds p' h) None M x e = absurd M
      refused_by (holds p' h) (Some t) M x e = spoken_refused p' h t M x e

      spoken : SpokenIn (latest W counted past (entry_of p)) (access_call W s m₁ a).reply (access_call W s m₁ a).memory
      spoken =
          subst⁻¹ (λ (x : Option Regime). SpokenIn (latest W counted past (entry_of p)) (access_with W s m₁ a x).reply (access_with W s m₁ a x).memory)
          (I.known ∙ q) (go (and_then (memory_check R (length m₁)) (access_check R a)) refl)
        where
          M : Matches (length m) (last_regime past) (get_or s.entries (entry_of p) empty) (latest W counted past (entry_of p))
          M = I.matches (entry_of p) (entry_lt p)

          go : (y : Checked) → and_then (memory_check R (length m₁)) (access_check R a) ≡ y
              → SpokenIn (latest W counted past (entry_of p)) (access_by W R m₁ a (held s.entries p) y).reply (access_by W R m₁ a (held s.entries p) y).memory
          go (Ok _) e = spoken_by (get_or s.entries (entry_of p) empty) (latest W counted past (entry_of p)) M e
          go (Err x) e = refused_by (get_or s.entries (entry_of p) empty) (latest W counted past (entry_of p)) M x e

      -- in the words of rule 3: the last rememberable access, and the last of these that counted a read
      module _ (reply : Reply) (left : List ℕ) where
        held_by_page : (any some_read : Option Moment) → page_at any ≡ page_at some_read → SpokenIn some_read reply left
            → (t : Moment) → any ≡ Some t → t.page ≡ p → (u : Moment) × (some_read ≡ Some u) × Recalled W u R m₁ a reply left
        held_by_page any None e k t h hp = let z : ◌≡◌ {A = Option ℕ} (Some t.page) None = sym (ap page_at h) ∙ e in absurd (apart z)
          where
            apart : {n : ℕ} → ◌≡◌ {A = Option ℕ} (Some n) None → ⊥
            apart z = let y : ◌≡◌ {A = ℕ} 0 1 = cc in omega arith
        held_by_page any (Some u) e k t h hp =
            let z : t.page ≡ u.page = same_Some t.page u.page (sym (ap page_at h) ∙ e) in
            (u, refl, k.own (sym z ∙ hp))

        other_by_page : (any some_read : Option Moment) → page_at any ≡ page_at some_read → SpokenIn some_read reply left
            → (t : Moment) → any ≡ Some t → t.page ≢ p → Plainly W R m₁ a reply left
        other_by_page any None e k t h hp = k
        other_by_page any (Some u) e k t h hp =
            let z : t.page ≡ u.page = same_Some t.page u.page (sym (ap page_at h) ∙ e) in
            k.other (λ x. hp (z ∙ x))

        unheld_by : (any some_read : Option Moment) → page_at any ≡ page_at some_read → SpokenIn some_read reply left → any ≡ None → Plainly W R m₁ a reply left
        unheld_by any None e k h = k
        unheld_by any (Some u) e k h = let z : ◌≡◌ {A = Option ℕ} None (Some u.page) = sym (ap page_at h) ∙ e in absurd (apart z)
          where
            apart : {n : ℕ} → ◌≡◌ {A = Option ℕ} None (Some n) → ⊥
            apart z = let y : ◌≡◌ {A = ℕ} 0 1 = cc in omega arith

      remembers : Remembers W (record { session = s; memory = m; past = past }) R a m₁ (access_call W s m₁ a).reply (access_call W s m₁ a).memory
      remembers =
          let reply = (access_call W s m₁ a).reply in
          let left = (access_call W s m₁ a).memory in
          let any = latest W any_count past (entry_of p) in
          let read = latest W counted past (entry_of p) in
          let e = I.last (entry_of p) (entry_lt p) in
          record {
            held = held_by_page reply left any read e spoken;
            other = other_by_page reply left any read e spoken;
            unheld = unheld_by reply left any read e spoken;
          }

  -- ---- rule 3

  pub begin : (m : List ℕ) → Bytes m → Inv fresh m []
  begin m hb =
      record {
        sized = length-replicate entry_count empty;
        known = refl;
        valid = λ R q. absurd (nothing q);
        matches = λ i lt. subst⁻¹ (λ (pl : Entry). Matches (length m) None pl None) (get_or-replicate entry_count i empty empty lt) tt;
        last = λ i lt. refl;
        fresh_in = λ st i lt. subst⁻¹ (λ (pl : Entry). FreshEntry m pl None) (get_or-replicate entry_count i empty empty lt) tt;
        bytes = hb;
        every = tt;
      }
    where
      nothing : {R : Regime} → ◌≡◌ {A = Option Regime} None (Some R) → ⊥
      nothing q = let z : ◌≡◌ {A = ℕ} 0 1 = cc in omega arith

  holds_on : (cs : List Call) (w : World) → Inv w.session w.memory w.past → Inv (run W w cs).session (run W w cs).memory (run W w cs).past
  unfolding run
  holds_on [] w I = I
  holds_on (c ∷ cs) w I = holds_on cs (next W w c) (step w.session w.memory w.past I c)

  silent : (R : Regime) (m : List ℕ) (a : Access) → writes a.kind ≡ false → dirties (plainly W R m a).reply ≡ false
  silent R m a h = ap (λ (w : Told Reply). dirties w.reply) (L.plain_walk R m a) ∙ go (and_then (memory_check R (length m)) (and_then (setting_check R) (access_check R a)))
    where
      go₂ : (l : Spot) → dirties (walk_from W R m a l).reply ≡ false
      go₂ (lost c l n) = refl
      go₂ (found at u n) = L.quiet R u a h

      go : (y : Checked) → dirties (unless_refused y m (walked W R m a)).reply ≡ false
      go (Ok _) = go₂ (locate R m (page R a))
      go (Err x) = refl

  pub claim : (s : Session) (m : List ℕ) (past : List Event) → Inv s m past → Rule3 W (record { session = s; memory = m; past = past })
  claim s m past I = record { calls = I.every; remembers = λ R q a m₁ size. remembers s m past I a R q m₁ size; quiet = silent }

  pub rule3 : (calls : List Call) (m : List ℕ) → Bytes m → Rule3 W (run W (start m) calls)
  rule3 calls m hb =
      let w = run W (start m) calls in
      claim w.session w.memory w.past (holds_on calls (start m) (begin m hb))
