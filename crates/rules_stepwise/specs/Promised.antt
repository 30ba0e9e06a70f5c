-- What is promised of every walk a descriptor at a time (RULES 16.5), by any functions that do what the rules say of an offer.
use Rattle.std.specs.Prelude.{ℕ, ◌+◌, ◌-◌, ◌≤◌, ◌<◌, Bool, true, false, ◌||◌, List, [], ◌∷◌, ◌++◌, ◌↔◌, ◌≢◌, ◌≡◌, length, Some, Option, None}
use Rattle.descriptor.specs.Bytes.{desc, put}
use Rattle.descriptor.specs.Bits.{bit}
use Rattle.geometry.specs.Geometry.{output_limit}
use Rattle.vmsa.specs.Settings.{with_pool, with_ee}
use Rattle.vmsa.specs.Answers.{Result, success, refused, number_of}
use Rattle.vmsa.specs.declared.Regime.{Regime}
use Rattle.vmsa.specs.declared.Pool.{Pool}
use Rattle.vmsa.specs.declared.PhysAddr.{PhysAddr}
use Rattle.vmsa.specs.declared.Access.{Access}
use Rattle.vmsa.specs.declared.Success.{Success}
use Rattle.vmsa.specs.declared.Refusal.TheVariants.{WalkEnded}
use Rattle.refusals.specs.Tests.{memory_pool_bad, pool_address_bad}
use Rattle.checks.specs.Order.{start_rows}
use Rattle.stepwise.specs.Stepwise.{Ended, Progress, ended}
use Rattle.walk.specs.Walk.{walk}
use Rattle.rules.specs.Rule1.{FirstNumber}
use Rattle.rules.specs.Rule2.{FlagUpdate, DirtyUpdate}
use Rattle.rules.specs.Tables.{reader_of}
use Rattle.rules_stepwise.specs.Feeds.{Offer, named, Functions, Fed, addresses, Reads, plain_over}
use Rattle.stepwise.specs.declared.Update.{Update}

-- ---- an update that is due, in the memory that holds the pool (RULES 2.3)

abbrev pub offset_of : Pool → PhysAddr → ℕ
offset_of p a = p.start + (a.0 - p.address.0)

-- the memory with the new value written, in the byte order of the regime
abbrev pub with_due : Regime → List ℕ → Option Update → List ℕ
with_due r m None = m
with_due r m (Some u) = put r.ee m (offset_of r.pool u.address) u.value

-- the descriptor lies wholly in the pool, and is the value expected
pub record StandsAt (r : Regime) (m : List ℕ) (address : PhysAddr) (value : ℕ) : Type 0 where
  pub least : r.pool.address.0 ≤ address.0
  pub most : address.0 + 8 ≤ r.pool.address.0 + r.pool.length
  pub same : desc r.ee m (offset_of r.pool address) ≡ value

abbrev pub Expected : Regime → List ℕ → Option Update → Type 0
Expected r m None = Unit {0}
Expected r m (Some u) = StandsAt r m u.address u.expected

-- what an end says of its update (RULES 8 and 16.4): one is due exactly where the answer is a success that sets the Access flag or makes the page dirty, and it does that,
-- from the value expected to the new one, and changes no other bit
pub record LeafUpdate (r : Regime) (a : Access) (x : Success) (v w : ℕ) : Type 0 where
  pub some : (x.accessed || x.dirtied) ≡ true
  pub flag : FlagUpdate r a v w x.accessed
  pub dirty : DirtyUpdate r a v w x.dirtied
  pub bits : (n : ℕ) → n ≢ 10 → n ≢ 7 → bit n w ≡ bit n v

abbrev pub Says : Regime → Access → Result → Option Update → Type 0
Says r a result None = (x : Success) → result ≡ success x → (x.accessed ≡ false) × (x.dirtied ≡ false)
Says r a result (Some u) = (x : Success) × (result ≡ success x) × LeafUpdate r a x u.expected u.value

-- a regime with another pool, and in either byte order
abbrev pub elsewhere : Regime → Pool → Bool → Regime
elsewhere r p ee = with_ee (with_pool r p) ee

-- two readers have the same at each of these addresses
abbrev pub Agree : (ℕ → Option ℕ) → (ℕ → Option ℕ) → List ℕ → Type 0
Agree read read2 [] = Unit {0}
Agree read read2 (a ∷ rest) = (read a ≡ read2 a) × Agree read read2 rest

module _ {S : Type 0} (see : S → Progress) (F : Functions S) where
  -- of any walk at all, left by a call or not, and of whatever is offered
  pub record Ends : Type 0 where
    -- it has ended after at most four offers
    pub four : (s t : S) (offers : List Offer) → Fed see F s offers t → length offers ≤ 4
    pub wants : (s t : S) (offers : List Offer) → Fed see F s offers t → (a : ℕ) → named (see t) ≡ Some a → length offers ≤ 3
    -- after the end every offer is refused with 12, and leaves the walk as it was
    pub late : (s : S) (e : Ended) → see s ≡ ended e → (o : Option ℕ) (t : S) (n : ℕ) → F s o t n → (t ≡ s) × (n ≡ number_of WalkEnded)
    -- before it none is refused
    pub accepted : (s : S) (a : ℕ) → named (see s) ≡ Some a → (o : Option ℕ) (t : S) (n : ℕ) → F s o t n → n ≡ 0

  -- of a walk s that was started with the regime r and the access a; where `Reads` stands, one that was fed by a reader
  pub record Walks (r : Regime) (a : Access) (s : S) : Type 0 where
    -- the start is refused with k exactly where the first row that applies has the number k; no walk that was fed ends in a refusal
    pub refusals : (k : ℕ) → ((e : Ended) × (see s ≡ ended e) × (e.result ≡ refused k)) ↔ FirstNumber (start_rows r a) k
    pub later : (x : Offer) (offers : List Offer) (t : S) → Fed see F s (x ∷ offers) t → (e : Ended) → see t ≡ ended e → (k : ℕ) → e.result ≢ refused k
    -- whatever was offered: the update is what the answer says, and a success gives an address below 2 to the output size
    pub update : (t : S) (offers : List Offer) → Fed see F s offers t → (e : Ended) → see t ≡ ended e → Says r a e.result e.due
    pub below : (t : S) (offers : List Offer) → Fed see F s offers t → (e : Ended) → see t ≡ ended e → (x : Success) → e.result ≡ success x → x.output.0 < output_limit r.output
    -- the addresses named, in order, are those that the plain walk visits over that reader: all of them at the end, and before it the first ones, the next being the one that is wanted
    pub all : (read : ℕ → Option ℕ) (t : S) (offers : List Offer) → Fed see F s offers t → Reads read offers → (e : Ended) → see t ≡ ended e → addresses offers ≡ (plain_over r a read).visited
    pub first : (read : ℕ → Option ℕ) (t : S) (offers : List Offer) → Fed see F s offers t → Reads read offers → (x : ℕ) → named (see t) ≡ Some x
        → (rest : List ℕ) × ((plain_over r a read).visited ≡ addresses offers ++ (x ∷ rest))
    -- the end is that of the plain walk over that reader
    pub end : (read : ℕ → Option ℕ) (t : S) (offers : List Offer) → Fed see F s offers t → Reads read offers → (e : Ended) → see t ≡ ended e → e ≡ (plain_over r a read).end
    -- over what a pool holds, where rows 1 and 2 refuse nothing: the answer is that of `walk`, the value expected stands there, and with the new value written the memory is that of `walk`
    pub pool : (m : List ℕ) → memory_pool_bad (length m) r ≡ false → pool_address_bad r ≡ false → (t : S) (offers : List Offer) → Fed see F s offers t → Reads (reader_of r m) offers
        → (e : Ended) → see t ≡ ended e → ((walk r a m).result ≡ e.result) × ((walk r a m).bytes ≡ with_due r m e.due) × Expected r m e.due
    -- the pool and EE have no say: what is named, and the end, are those of the plain walk over that reader with any other pool, and in either byte order
    pub unheard : (p : Pool) (ee : Bool) (read : ℕ → Option ℕ) (t : S) (offers : List Offer) → Fed see F s offers t → Reads read offers → (e : Ended) → see t ≡ ended e
        → (addresses offers ≡ (plain_over (elsewhere r p ee) a read).visited) × (e ≡ (plain_over (elsewhere r p ee) a read).end)
    -- two readers that agree on the addresses named for one of them: the same addresses, and the same end
    pub alike : (read read2 : ℕ → Option ℕ) (t t2 : S) (offers offers2 : List Offer) → Fed see F s offers t → Reads read offers → Fed see F s offers2 t2 → Reads read2 offers2
        → Agree read read2 (addresses offers) → (e e2 : Ended) → see t ≡ ended e → see t2 ≡ ended e2 → (addresses offers ≡ addresses offers2) × (e ≡ e2)
