-- What an endpoint does under each PASID.
use Rattle.std.specs.Prelude.{ℕ, suc, Bool, true, false, List, replicate, slice_index_or, slice_set, nat_lt, if◌then◌else◌}
use Rattle.sva_step.specs.Limits
use Rattle.sva_endpoint.specs.declared.pasid_states.PasidState.{PasidState}
use Rattle.sva_endpoint.specs.declared.pasid_states.PasidState.TheVariants.{Off, On, Stopping}

-- the place P of the list is that of PASID P; place 0 stays off
abbrev pub all_off : List PasidState
all_off = replicate (suc Limits.pasids) Off

-- what the endpoint does under a PASID; from 33 on each is off
abbrev pub state_of : List PasidState → ℕ → PasidState
state_of states pasid = slice_index_or states pasid Off

-- a PASID outside 1 to 32 stays off
abbrev pub with_state : List PasidState → ℕ → PasidState → List PasidState
with_state states pasid state = if nat_lt 0 pasid then slice_set states pasid state else states

-- is nothing sent under the PASID? Its start hasn't come, it was quit, or a reset has cleared it
abbrev pub is_off : PasidState → Bool
is_off Off = true
is_off On = false
is_off Stopping = false

-- has the start come, and since then no stop and no reset? A request, a use and a new group need it so
abbrev pub is_on : PasidState → Bool
is_on Off = false
is_on On = true
is_on Stopping = false

-- has the stop come, and since then neither a quit nor a reset? Nothing new begins then, but an unfinished group goes on
abbrev pub is_stopping : PasidState → Bool
is_stopping Off = false
is_stopping On = false
is_stopping Stopping = true
