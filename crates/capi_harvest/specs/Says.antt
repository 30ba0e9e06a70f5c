-- What each C function of a harvest (RULES 15 and 17) tells whoever called it: of what its pointers named before the call, what they name after it (with a
-- dash), and what it returned. proofs/Promises.antt has that each function's own contract says this.
use Rattle.std.specs.Prelude.{ℕ, List, ◌≡◌}
use Rattle.vmsa.specs.Words.{regime_of}
use Rattle.vmsa.specs.declared.RegimeWords.{RegimeWords}
use Rattle.harvest.specs.Harvest.{harvested, harvest}
use Rattle.session.specs.declared.Session.{Session as SessionStruct}
use Rattle.session.specs.View.{harvest_leaves}
use Rattle.words.specs.Words.{harvest_numbered, harvest_replied}

-- vmsa_harvest(m, .., &g, first, count, map, ..) returned n, and left m' and map'
abbrev pub HarvestSays : List ℕ → RegimeWords → ℕ → ℕ → List ℕ → List ℕ → List ℕ → ℕ → Type 0
HarvestSays m g first count map m' map' n = harvested n m' map' ≡ harvest_numbered (harvest (regime_of g) first count m map)

-- vmsa_session_harvest(&s, m, .., first, count, map, ..) returned n, and left s', m' and map'
abbrev pub SessionHarvestSays : SessionStruct → List ℕ → ℕ → ℕ → List ℕ → SessionStruct → List ℕ → List ℕ → ℕ → Type 0
SessionHarvestSays s m first count map s' m' map' n = (s', harvested n m' map') ≡ harvest_replied (harvest_leaves s first count m map)
