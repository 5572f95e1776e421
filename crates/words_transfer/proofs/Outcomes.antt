-- What putting a model into words comes to, by the number that is answered: too many parts, too few words of a table or
-- of a state, or enough of both.
use Rattle.words_transfer.specs.PutInto.{too_many_put, table_short_put, state_short_put, whole_put}

pub ruleset put_outcomes = (too_many_put, table_short_put, state_short_put, whole_put)
