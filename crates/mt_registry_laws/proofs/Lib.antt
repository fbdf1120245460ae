mod Mappers
