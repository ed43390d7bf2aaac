mod Queries
