-- Worked cases (RULES 12) a descriptor at a time: the values offered, the addresses named, and the end.
use Rattle.std.specs.Prelude.{ℕ, true, false, List, [], ◌∷◌, ◌≡◌, Option, Some, None}
use Rattle.vmsa.specs.Settings.{with_hd, with_granule}
use Rattle.vmsa.specs.Answers.{Result, refused}
use Rattle.vmsa.specs.declared.Granule.TheVariants.{Kib64}
use Rattle.vmsa.specs.declared.Regime.{Regime}
use Rattle.vmsa.specs.declared.Access.{Access}
use Rattle.vmsa.specs.declared.AccessKind.TheVariants.{Read, Write, ProbeWrite}
use Rattle.stepwise.specs.Stepwise.{Progress, wanting, ended, start, offered}
use Rattle.cases.specs.Cases.{base, access, usual, leaf_address, leaf, accessed_leaf, dirty_leaf, passed, passed_at, failed}
use Rattle.stepwise.specs.declared.Update.{Update}

-- the addresses that a walk names while it is offered these, and where it has come to
unfoldable pub feed : Progress → List (Option ℕ) → List ℕ × Progress
feed p [] = ([], p)
feed (wanting w) (o ∷ offers) = (w.address.0 ∷ (feed (offered w o) offers).0, (feed (offered w o) offers).1)
feed (ended e) (o ∷ offers) = ([], ended e)

-- a walk that is offered these names these addresses, and ends so
abbrev pub Goes : Regime → Access → List (Option ℕ) → List ℕ → Result → Option Update → Type 0
Goes r a offers named result update = feed (start r a) offers ≡ (named, ended (record { result = result; due = update }))

-- an update of the leaf's descriptor to v
abbrev pub leaf_to : ℕ → Option Update
leaf_to v = Some (record { address = record { 0 = leaf_address }; expected = leaf; value = v })

-- the first three values, and what comes then
abbrev pub then_offer : Option ℕ → List (Option ℕ)
then_offer o = Some 0x40001003 ∷ Some 0x40002003 ∷ Some 0x40003003 ∷ o ∷ []

abbrev pub four_addresses : List ℕ
four_addresses = 0x40000000 ∷ 0x40001000 ∷ 0x40002010 ∷ leaf_address ∷ []

pub record WorkedSteps : Type 0 where
  pub p1 : Goes base (usual Read) (then_offer (Some leaf)) four_addresses (passed 0x80005ABC true false true) (leaf_to accessed_leaf)
  pub p2 : Goes base (usual Write) (then_offer (Some leaf)) four_addresses (passed 0x80005ABC true true true) (leaf_to dirty_leaf)
  pub p3 : Goes base (access 0x403ABC 1 ProbeWrite) (then_offer (Some leaf)) four_addresses (passed 0x80005ABC false false false) None
  pub p4 : Goes (with_hd base false) (usual Write) (then_offer (Some leaf)) four_addresses (failed 15 3 false 4) None
  -- the last descriptor is not reachable
  pub p7 : Goes base (usual Read) (then_offer None) four_addresses (failed 23 3 false 4) None
  -- refused at the start
  pub p11 : Goes base (access 0x403FFD 4 Read) [] [] (refused 7) None
  -- with 64 KiB: three levels, the index of level 1 cut to nothing but 0, a page
  pub wide : Goes (with_granule base Kib64) (usual Read) (Some 0x40010003 ∷ Some 0x40020003 ∷ Some leaf ∷ []) (0x40000000 ∷ 0x40010000 ∷ 0x40020200 ∷ []) (passed_at 3 3 0x80003ABC true false true)
      (Some (record { address = record { 0 = 0x40020200 }; expected = leaf; value = accessed_leaf }))
