-- What a drain's errors are to a call.
use Rattle.hx_world.specs.declared.ends.DrainError.{DrainError}
use Rattle.hx_world.specs.declared.ends.DrainError.TheVariants.{Memory, Worn}
use Rattle.hx_service.specs.declared.errors.ServiceError.{ServiceError}
use Rattle.hx_service.specs.declared.errors.ServiceError.TheVariants as an_error

-- the error of a call whose drain failed so
abbrev pub error_of_drain : DrainError → ServiceError
error_of_drain Memory = an_error.Memory
error_of_drain (Worn a) = an_error.Worn a
